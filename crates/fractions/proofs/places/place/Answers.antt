use Rattle.std.proofs.Common.{◌≢◌, ◌%◌, ◌^◌, arith}
use Rattle.std.proofs.Common.{sym, ◌∙◌}
use Rattle.fractions.proofs.Placing.{place_start, place_here, place_further, place_end, room_of, none_shown}
use Rattle.fractions.proofs.places.place.Goals as goal

pub returns-then-power-under-ne0-clause-value : goal.returns-then-power-under-ne0-clause-value
returns-then-power-under-ne0-clause-value c = let g : 10 ^ 38 % c.args.under ≢ 0 = (λ e. grind (arith, e, c.if-power-under-ne0.true, c.power.ensures.value)) in sym (none_shown c.args.over c.args.under g)

pub loop-k-init : goal.loop-k-init
loop-k-init c = place_start c.args.over c.args.under

pub returns-then-has_room-clause-value : goal.returns-then-has_room-clause-value
returns-then-has_room-clause-value c = sym (place_here c.args.over c.args.under c.loop-k.k c.loop-k-test.true (sym c.has_room.ensures ∙ c.if-has_room.true)) ∙ c.loop-k.invariant

pub returns-then-has_room-clause-room : goal.returns-then-has_room-clause-room
returns-then-has_room-clause-room c = room_of c.args.over c.args.under c.loop-k.k (sym c.has_room.ensures ∙ c.if-has_room.true)

pub loop-k-preserved : goal.loop-k-preserved
loop-k-preserved c = sym (place_further c.args.over c.args.under c.loop-k.k c.loop-k-test.true (sym c.has_room.ensures ∙ c.if-has_room.false)) ∙ c.loop-k.invariant

pub returns-clause-value : goal.returns-clause-value
returns-clause-value c = sym (place_end c.args.over c.args.under c.loop-k.k c.loop-k-test.false) ∙ c.loop-k.invariant
