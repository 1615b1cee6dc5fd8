use Rattle.std.proofs.Common.{refl, sym}
use Rattle.presolve_command.proofs.Rays.{asked, end_of, ends_past, ends_unwritten, ends_written, error_is, has_ray, lacks_ray}
use Rattle.presolve_command.proofs.command.infeasible.Goals as goal

pub text_of_ray-requires-clause-end : goal.text_of_ray-requires-clause-end
text_of_ray-requires-clause-end g c =
    end_of c.args.words.now.options c.form_of.result c.args.text.now c.as_slice-history.result.now c.args.decided.now.history.items c.args.decided.now.verdict c.form_of.ensures c.as_slice-history.ensures.value c.requires.decided

pub returns-in-Ok-write-clause-ends : goal.returns-in-Ok-write-clause-ends
returns-in-Ok-write-clause-ends g c =
    let made = c.in-Ok.ray.items in
    let has = has_ray c.args.words.now.options c.form_of.result c.args.text.now c.as_slice-history.result.now c.args.decided.now.history.items c.args.decided.now.verdict made c.form_of.ensures
    c.as_slice-history.ensures.value c.requires.decided c.in-Ok.ensures.told in
    ends_written c.args.words.now.options c.args.text.now _ c.in-Some.name.now c.deref.result.now made (g.F.Files.moment c.args.files.now) (g.F.Files.moment c.write.new.self)
    (asked c.args.words.now.ray c.in-Some.name c.in-Some.is) c.deref.ensures.value has c.in-Ok-write.ensures.written c.in-Ok-write.ensures.others

pub returns-in-Ok-clause-ends : goal.returns-in-Ok-clause-ends
returns-in-Ok-clause-ends g c =
    let made = c.in-Ok.ray.items in
    let has = has_ray c.args.words.now.options c.form_of.result c.args.text.now c.as_slice-history.result.now c.args.decided.now.history.items c.args.decided.now.verdict made c.form_of.ensures
    c.as_slice-history.ensures.value c.requires.decided c.in-Ok.ensures.told in
    ends_unwritten c.args.words.now.options c.args.text.now _ c.in-Some.name.now made (g.F.Files.moment c.args.files.now) (g.F.Files.moment c.write.new.self)
    (asked c.args.words.now.ray c.in-Some.name c.in-Some.is) has c.in-Err.ensures.others (c.in-Err.ensures.failed, c.in-Err.ensures.unsettled)

pub returns-in-Err-Past-clause-ends : goal.returns-in-Err-Past-clause-ends
returns-in-Err-Past-clause-ends g c =
    let stops = c.in-Err-Past.ensures.past c.in-Err-Past.at (error_is _ _ c.in-Err-Past.field-0-is) in
    let lacks = lacks_ray c.args.words.now.options c.form_of.result c.args.text.now c.as_slice-history.result.now c.args.decided.now.history.items c.args.decided.now.verdict c.in-Err-Past.at c.form_of.ensures
    c.as_slice-history.ensures.value c.requires.decided stops in
    ends_past c.args.words.now.options c.args.text.now _ c.in-Some.name.now c.in_ok-past_text-in-Err-Past.field-0 c.in-Err-Past.at _ (g.F.Files.moment c.args.files.now) (g.F.Files.moment c.args.files.now)
    (asked c.args.words.now.ray c.in-Some.name c.in-Some.is) lacks refl (sym c.in-Err-Past.at-is) c.in_ok-past_text-in-Err-Past.ensures
