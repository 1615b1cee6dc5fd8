use Rattle.std.proofs.Common.{sym, subst}
use Rattle.endings.specs.ProgramTexts.{IsReadAs}
use Rattle.endings.specs.declared.forms.Form.{Form}
use Rattle.endings.proofs.forms.read_program.Goals as goal

pub returns-in-Opb-clause-read : goal.returns-in-Opb-clause-read
returns-in-Opb-clause-read c = subst (λ (form : Form). IsReadAs form c.args.text.now c.read_as_opb.result) (sym c.in-Opb.is) (c.read_as_opb.ensures.read c.in-Opb.field-0)
