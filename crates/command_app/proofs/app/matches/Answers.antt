use Rattle.std.proofs.Common.{◌≡◌}
use Rattle.clap.specs.Words.{app_of}
use Rattle.command_app.specs.Line.{texts}
use Rattle.command_words.specs.declared.words.Refusal.TheVariants.{Words}
use Rattle.command_app.proofs.Simple.{refused_by}
use Rattle.command_app.proofs.app.matches.Goals as goal

pub returns-in-Err-clause-untaken : goal.returns-in-Err-clause-untaken
returns-in-Err-clause-untaken c = λ e.
    let is_words : c.reason.result ≡ Words = cc in
    refused_by (app_of c.in-Ok.command) (texts c.args.words.now) _ c.in-Ok.ensures.app c.in-Err.ensures.passes (c.reason.ensures is_words)
