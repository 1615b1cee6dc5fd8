use Rattle.std.proofs.Common.{ℕ, List, Err, subst, sym}
use Rattle.fractions.specs.declared.Numbers.{Numbers}
use Rattle.lp_model.specs.Writable.{Writable}
use Rattle.endings.specs.declared.forms.Form.{Form}
use Rattle.endings.specs.declared.forms.ProgramError.{ProgramError}
use Rattle.endings.specs.declared.forms.ProgramFault.{ProgramFault}
use Rattle.endings.specs.Forms.{form_of}
use Rattle.endings.specs.ProgramTexts.{IsFaultOf, IsProgramOf, IsReadAs}
use Rattle.presolve_command.proofs.Made.{made_reduced}
use Rattle.presolve_command.proofs.reduce.reduce.Goals as goal

pub reduce_taken-requires-clause-writable : goal.reduce_taken-requires-clause-writable
reduce_taken-requires-clause-writable g c κs within = subst (λ (n : Numbers). Writable n c.in-Ok.program) (sym c.numbers.ensures) c.in-Ok.ensures.writable

pub returns-in-Ok-clause-reduced : goal.returns-in-Ok-clause-reduced
returns-in-Ok-clause-reduced g c =
    made_reduced c.args.options c.form_of-form.result c.numbers.result c.new-workers.result c.args.text.now.items c.in-Ok.program c.reduce_taken.result c.form_of-form.ensures c.numbers.ensures c.new-workers.ensures
    (subst (λ (text : List ℕ). IsProgramOf c.form_of-form.result text c.in-Ok.program) c.deref.ensures.value c.in-Ok.ensures.read) c.reduce_taken.ensures

pub returns-in-Err-Fault-clause-reduced : goal.returns-in-Err-Fault-clause-reduced
returns-in-Err-Fault-clause-reduced g c =
    let form = c.form_of-form.result in
    let fault = c.in-Err-Fault.fault in
    subst (λ (said : ProgramFault). IsFaultOf (form_of c.args.options) c.args.text.now.items said) (sym c.in-Err-Fault.fault-is)
    (subst (λ (f : Form). IsFaultOf f c.args.text.now.items fault) c.form_of-form.ensures
    (subst (λ (text : List ℕ). IsFaultOf form text fault) c.deref.ensures.value
    (subst (λ (e : ProgramError). IsReadAs form c.deref.result.now (Err e)) c.in-Err-Fault.field-0-is c.in-Err-Fault.ensures.read)))
