use Rattle.std.proofs.Common.{◌≡◌, ◌<◌, ◌%◌, ◌/◌, length, slice_get, Some, refl, ap, subst, ◌∙◌, arith}
use Rattle.std.proofs.lemmas.Option.{slice_get_read}
use Rattle.threaded_passes.proofs.found.list_at.Goals as goal

pub returns-then-turn-found : goal.returns-then-turn-found
returns-then-turn-found c =
    let many = length c.args.lists.now in
    let inside : c.args.place % many < many = omega (arith, c.requires) in record {
      share = c.in-Ok.found;
      found = c.index-found-turn.result;
      there = slice_get_read c.args.lists.now many (c.args.place % many) c.index-lists-place.result refl inside c.index-lists-place.is ∙ ap Some c.in-Ok.is;
      has = subst (λ lists. slice_get lists (c.args.place / many) ≡ Some c.index-found-turn.result) c.as_slice-found.ensures.value
          (slice_get_read c.as_slice-found.result.now (length c.as_slice-found.result.now) (c.args.place / many) c.index-found-turn.result refl c.if-turn-found.true c.index-found-turn.is);
      same = c.as_slice.ensures.value;
    }
