-- A walk that passes leaves rows with first values.
use Rattle.std.proofs.Common.{◌≡◌, ◌∙◌, ◌&&◌, ◌||◌, ℕ, zero, suc, Bool, cond, true, false, not, refl, sym, subst, List, [], ◌∷◌, length, drop, Option, Some, None, inl, inr, is_some, true≢false, fold, find, slice_get, encode_utf8, chars, bytes_eq, codes}
use Rattle.std.specs.List.{list_all, list_any}
use Rattle.std.specs.Option.{option_map_or}
use Rattle.clap.proofs.SimpleLemmas.{is_false}
use Rattle.clap.proofs.WalkLemmas.{both}
use Rattle.clap.specs.Facts.{explicit_source}
use Rattle.clap.specs.Lexer.{long_of, short_of}
use Rattle.clap.specs.Takes.{bundle_passes, bundle_step_passes, default_passes, flag_word_passes, flags_pass, is_given, level_passes, long_passes, option_passes, other_passes, positional_passes, react_passes, settle_passes, short_passes, step_passes, turn_passes, use_passes, walk_passes, word_passes}
use Rattle.clap.specs.Simple.{Shape}
use Rattle.clap.specs.Walk.{Held, Names, Outcome, Row, Rule, Step, Text, Waiting, Walk, after_flag, after_step, arg_by_id, arg_by_index, arg_by_long, arg_by_short, attached_value, bundle_met, bundle_step, done, waits, plain, refused, flag_met, finished, is_pending, long_met, long_or_other, next, nothing_held, option, option_met, option_word, idle, positional, plain_word, positional_held, reacted, rows_after, settled, settled_rows, short_met, short_or_plain, subcommand, subcommand_met, subcommand_or_other, takes_several, takes_values, to_positional, trailing, used_by_id, value, walk, walk_from, walked, walked_from, with_default, word_met}
use Rattle.command_laws.proofs.Rows.{Each, HasFirst, each_found, either}
use Rattle.command_laws.proofs.Uses.{IsKnown, default_each, used_each}

-- each row of what is held has a first value
abbrev HasFirsts : List Rule → Held → Type 0
HasFirsts rules h = Each (HasFirst rules) h.rows

module _ (rules : List Rule) (again : Bool) (known : Each (IsKnown rules) rules) where
  known_found : (q : Rule → Bool) (a : Rule) → find q rules ≡ Some a → IsKnown rules a
  known_found q a found = (each_found (IsKnown rules) q rules a known found).0

  settled_each : (h : Held) → settle_passes rules again h ≡ true → HasFirsts rules h → HasFirsts rules (settled rules h)
  settled_each h e each = pending h.pending e
    where
      by_id : (values : List Text) (id : Text) (o : Option Rule) → arg_by_id rules id ≡ o
          → option_map_or (λ a. use_passes again a values h.rows) o true ≡ true → Each (HasFirst rules) (used_by_id o values h.rows)
      by_id values id None found e = each
      by_id values id (Some a) found e = used_each rules again a values h.rows (known_found _ a found) e each

      pending : (p : Option (Text × List Text)) → settle_passes rules again (record h { pending = p }) ≡ true → Each (HasFirst rules) (settled_rows rules p h.rows)
      pending None e = each
      pending (Some p) e = by_id p.1 p.0 (arg_by_id rules p.0) refl e

  reacted_each : (a : Rule) (values : List Text) (h : Held) → IsKnown rules a → react_passes rules again a values h ≡ true → HasFirsts rules h → HasFirsts rules (reacted rules a values h)
  reacted_each a values h is e each =
      let p = both (settle_passes rules again h) _ e in
      used_each rules again a values _ is p.1 (settled_each h p.0 each)

  option_each : (a : Rule) (v : Option Text) (h : Held) → IsKnown rules a → option_passes rules again a v h ≡ true → HasFirsts rules h → HasFirsts rules (option_met rules a v h).0
  option_each a (Some v) h is e each = reacted_each a (v ∷ []) h is e each
  option_each a None h is e each = settled_each h e each

  flag_each : (a : Rule) (v : Option Text) (h : Held) → IsKnown rules a → (not (is_some v) && react_passes rules again a [] h) ≡ true → HasFirsts rules h
      → HasFirsts rules (flag_met rules a v h).0
  flag_each a (Some v) h is e each = each
  flag_each a None h is e each = reacted_each a [] h is e each

  long_each : (q : Rule → Bool) (o : Option Rule) (v : Option Text) (h : Held) → find q rules ≡ o → long_passes rules again o v h ≡ true → HasFirsts rules h
      → HasFirsts rules (long_met rules o v h).0
  long_each q None v h found e each = each
  long_each q (Some a) v h found e each = go (takes_values a) e
    where
      go : (b : Bool) → cond b (option_passes rules again a v h) (not (is_some v) && react_passes rules again a [] h) ≡ true
          → HasFirsts rules (cond b (option_met rules a v h) (flag_met rules a v h)).0
      go true e = option_each a v h (known_found q a found) e each
      go false e = flag_each a v h (known_found q a found) e each

  short_each : (q : Rule → Bool) (o : Option Rule) (rest : Text) (h : Held) (further : Held → Held × Outcome) (passes : Held → Bool) → find q rules ≡ o
      → ((g : Held) → passes g ≡ true → HasFirsts rules g → HasFirsts rules (further g).0)
      → short_passes rules again o rest h passes ≡ true → HasFirsts rules h → HasFirsts rules (short_met rules o rest h further).0
  short_each q None rest h further passes found step e each = each
  short_each q (Some a) rest h further passes found step e each = go (takes_values a) e
    where
      go : (b : Bool) → cond b (option_passes rules again a (attached_value rest) h) (react_passes rules again a [] h && passes (reacted rules a [] h)) ≡ true
          → HasFirsts rules (cond b (option_met rules a (attached_value rest) h) (further (reacted rules a [] h))).0
      go true e = option_each a (attached_value rest) h (known_found q a found) e each
      go false e =
          let p = both (react_passes rules again a [] h) _ e in
          step (reacted rules a [] h) p.1 (reacted_each a [] h (known_found q a found) p.0 each)

  bundle_step_each : (o : Option ℕ) (flags : Text) (skip : ℕ) (so_far : Outcome) (h : Held) (further : Text → ℕ → Outcome → Held → Held × Outcome)
      (passes : Text → ℕ → Held → Bool)
      → ((rest : Text) (skip : ℕ) (so_far : Outcome) (g : Held) → passes rest skip g ≡ true → HasFirsts rules g → HasFirsts rules (further rest skip so_far g).0)
      → bundle_step_passes rules again o flags skip h passes ≡ true → HasFirsts rules h → HasFirsts rules (bundle_step rules o flags skip so_far h further).0
  bundle_step_each None flags skip so_far h further passes step e each = each
  bundle_step_each (Some x) flags zero so_far h further passes step e each =
      let rest = drop (length (encode_utf8 x)) flags in
      short_each _ (arg_by_short rules x) rest h (further rest 0 done) (passes rest 0) refl (step rest 0 done) e each
  bundle_step_each (Some x) flags (suc skip) so_far h further passes step e each = step (drop (length (encode_utf8 x)) flags) skip so_far h e each

  bundle_each : (k : ℕ) (flags : Text) (skip : ℕ) (so_far : Outcome) (h : Held) → flags_pass rules again k flags skip h ≡ true → HasFirsts rules h
      → HasFirsts rules (bundle_met rules k flags skip so_far h).0
  unfolding flags_pass bundle_met
  bundle_each zero flags skip so_far h e each = each
  bundle_each (suc k) flags skip so_far h e each =
      bundle_step_each (slice_get (chars flags) 0) flags skip so_far h (bundle_met rules k) (flags_pass rules again k) (bundle_each k) e each

  option_word_each : (o : Option Rule) (id word : Text) (h : Held) → HasFirsts rules h → HasFirsts rules (option_word o id word h).0
  option_word_each None id word h each = each
  option_word_each (Some a) id word h each = each

  plain_word_each : (waiting : Waiting) (word : Text) (h : Held) → HasFirsts rules h → HasFirsts rules (plain_word rules waiting word h).0
  plain_word_each idle word h each = each
  plain_word_each positional word h each = each
  plain_word_each (option id) word h each = option_word_each (arg_by_id rules id) id word h each

  after_flag_each : (waiting : Waiting) (word : Text) (h : Held) (o : Outcome) → HasFirsts rules h → HasFirsts rules (after_flag rules waiting word h o).0
  after_flag_each waiting word h done each = each
  after_flag_each waiting word h (waits id) each = each
  after_flag_each waiting word h plain each = plain_word_each waiting word h each
  after_flag_each waiting word h refused each = plain_word_each waiting word h each

  short_word_each : (waiting : Waiting) (word : Text) (o : Option Text) (h : Held) → option_map_or (λ flags. bundle_passes rules again flags h) o true ≡ true
      → HasFirsts rules h → HasFirsts rules (short_or_plain rules waiting word o h).0
  short_word_each waiting word None h e each = plain_word_each waiting word h each
  short_word_each waiting word (Some flags) h e each =
      after_flag_each waiting word _ _ (bundle_each (length flags) flags h.skip plain (record h { skip = 0 }) e each)

  flag_word_each : (waiting : Waiting) (word : Text) (o : Option (Text × Option Text)) (h : Held) → flag_word_passes rules again o word h ≡ true
      → HasFirsts rules h → HasFirsts rules (long_or_other rules waiting word o h).0
  flag_word_each waiting word None h e each = short_word_each waiting word (short_of word) h e each
  flag_word_each waiting word (Some p) h e each =
      after_flag_each waiting word _ _ (long_each _ (arg_by_long rules p.0) p.1 h refl e each)

  held_each : (a : Rule) (word : Text) (h : Held) → positional_passes rules again a h ≡ true → HasFirsts rules h → HasFirsts rules (positional_held rules a word h)
  held_each a word h e each = go (is_pending a h.pending && takes_several a) e
    where
      go : (b : Bool) → (b || settle_passes rules again h) ≡ true → HasFirsts rules (cond b h (settled rules h))
      go true e = each
      go false e = settled_each h e each

  positional_each : (o : Option Rule) (word : Text) (w : Walk) (h : Held) → option_map_or (λ a. positional_passes rules again a h) o false ≡ true
      → HasFirsts rules h → HasFirsts rules (to_positional rules o word w h).held
  positional_each None word w h e each = each
  positional_each (Some a) word w h e each = held_each a word h e each

  defaults_each : (rest : List Rule) (rows : List Row) → Each (IsKnown rules) rest → list_all default_passes rest ≡ true → Each (HasFirst rules) rows
      → Each (HasFirst rules) (fold with_default rows rest)
  defaults_each [] rows is e each = each
  defaults_each (a ∷ rest) rows is e each =
      let p = both (default_passes a) _ e in
      defaults_each rest (with_default rows a) is.1 p.1 (default_each rules a rows is.0 p.0 each)

module _ (s : Shape) (names : Names) where
  module _ (known : Each (IsKnown s.rules) s.rules) where
    -- a word that is not one of the subcommands
    other_each : (o : Option Text) (waiting : Waiting) (position : ℕ) (word : Text) (h : Held) → other_passes s o word h ≡ true → HasFirsts s.rules h
        → HasFirsts s.rules (subcommand_or_other s.rules o waiting position word h).0
    other_each (Some name) waiting position word h e each = each
    other_each None waiting position word h e each = go (bytes_eq word (45 ∷ 45 ∷ [])) e
      where
        go : (b : Bool) → (b || flag_word_passes s.rules s.args_override_self (long_of word) word h) ≡ true
            → HasFirsts s.rules (cond b (h, trailing position) (long_or_other s.rules waiting word (long_of word) h)).0
        go true e = each
        go false e = flag_word_each s.rules s.args_override_self known waiting word (long_of word) h e each

    word_each : (is_trailing : Bool) (waiting : Waiting) (position : ℕ) (word : Text) (h : Held) → word_passes s names is_trailing waiting word h ≡ true
        → HasFirsts s.rules h → HasFirsts s.rules (word_met s.rules names is_trailing waiting position word h).0
    word_each true waiting position word h e each = each
    word_each false waiting position word h e each = other_each (subcommand_met names waiting word) waiting position word h e each

    step_each : (word : Text) (w : Walk) (h : Held) (step : Step) → step_passes s w.position h step ≡ true → HasFirsts s.rules h
        → HasFirsts s.rules (after_step s.rules word w h step).held
    step_each word w h (next waiting) e each = each
    step_each word w h (trailing position) e each = each
    step_each word w h (subcommand name) e each = each
    step_each word w h value e each = positional_each s.rules s.args_override_self known (arg_by_index s.rules w.position) word w h e each

    turn_each : (o : Option (Text × List Text)) (w : Walk) (word : Text) → turn_passes s names (record w { stopped = o }) word ≡ true → HasFirsts s.rules w.held
        → HasFirsts s.rules (walked_from s.rules names o w word).held
    turn_each (Some p) w word e each = each
    turn_each None w word e each =
        let p = both (word_passes s names w.is_trailing w.waiting word w.held) _ e in
        step_each word w _ _ p.1 (word_each w.is_trailing w.waiting w.position word w.held p.0 each)

    walk_each : (w : Walk) (words : List Text) → walk_passes s names w words ≡ true → HasFirsts s.rules w.held
        → HasFirsts s.rules (fold (walked s.rules names) w words).held
    unfolding walk_passes walked
    walk_each w [] e each = each
    walk_each w (word ∷ words) e each =
        let p = both (turn_passes s names w word) _ e in
        walk_each (walked s.rules names w word) words p.1 (turn_each w.stopped w word p.0 each)

  -- the step is no subcommand for help
  abbrev IsNoHelp : Step → Type 0
  IsNoHelp (subcommand name) = bytes_eq name (codes "help") ≡ false
  IsNoHelp (next waiting) = Unit {0}
  IsNoHelp (trailing position) = Unit {0}
  IsNoHelp value = Unit {0}

  plain_no_help : (waiting : Waiting) (word : Text) (h : Held) → IsNoHelp (plain_word s.rules waiting word h).1
  plain_no_help idle word h = tt
  plain_no_help positional word h = tt
  plain_no_help (option id) word h = tt

  flag_no_help : (waiting : Waiting) (word : Text) (h : Held) (o : Outcome) → IsNoHelp (after_flag s.rules waiting word h o).1
  flag_no_help waiting word h done = tt
  flag_no_help waiting word h (waits id) = tt
  flag_no_help waiting word h plain = plain_no_help waiting word h
  flag_no_help waiting word h refused = plain_no_help waiting word h

  short_no_help : (waiting : Waiting) (word : Text) (o : Option Text) (h : Held) → IsNoHelp (short_or_plain s.rules waiting word o h).1
  short_no_help waiting word None h = plain_no_help waiting word h
  short_no_help waiting word (Some flags) h = flag_no_help waiting word _ _

  long_no_help : (waiting : Waiting) (word : Text) (o : Option (Text × Option Text)) (h : Held) → IsNoHelp (long_or_other s.rules waiting word o h).1
  long_no_help waiting word None h = short_no_help waiting word (short_of word) h
  long_no_help waiting word (Some p) h = flag_no_help waiting word _ _

  module _ (has_help : s.disable_help_subcommand ≡ false) where
    named_no_help : (name : Text) → (not (bytes_eq name (codes "help")) || s.disable_help_subcommand) ≡ true → bytes_eq name (codes "help") ≡ false
    named_no_help name e = elim (either _ _ e) [
      | inl differs ↦ is_false _ differs
      | inr disabled ↦ absurd (true≢false (sym disabled ∙ has_help))
    ]

    other_no_help : (o : Option Text) (waiting : Waiting) (position : ℕ) (word : Text) (h : Held) → other_passes s o word h ≡ true
        → IsNoHelp (subcommand_or_other s.rules o waiting position word h).1
    other_no_help (Some name) waiting position word h e = named_no_help name e
    other_no_help None waiting position word h e = go (bytes_eq word (45 ∷ 45 ∷ []))
      where
        go : (b : Bool) → IsNoHelp (cond b (h, trailing position) (long_or_other s.rules waiting word (long_of word) h)).1
        go true = tt
        go false = long_no_help waiting word (long_of word) h

    word_no_help : (is_trailing : Bool) (waiting : Waiting) (position : ℕ) (word : Text) (h : Held) → word_passes s names is_trailing waiting word h ≡ true
        → IsNoHelp (word_met s.rules names is_trailing waiting position word h).1
    word_no_help true waiting position word h e = tt
    word_no_help false waiting position word h e = other_no_help (subcommand_met names waiting word) waiting position word h e

    -- the walk stopped at no subcommand for help
    abbrev StopsAtNoHelp : Option (Text × List Text) → Type 0
    StopsAtNoHelp None = Unit {0}
    StopsAtNoHelp (Some p) = bytes_eq p.0 (codes "help") ≡ false

    positional_stop : (o : Option Rule) (word : Text) (w : Walk) (h : Held) → StopsAtNoHelp w.stopped → StopsAtNoHelp (to_positional s.rules o word w h).stopped
    positional_stop None word w h stop = stop
    positional_stop (Some a) word w h stop = tt

    step_stop : (word : Text) (w : Walk) (h : Held) (step : Step) → IsNoHelp step → StopsAtNoHelp w.stopped → StopsAtNoHelp (after_step s.rules word w h step).stopped
    step_stop word w h (next waiting) plain_step stop = stop
    step_stop word w h (trailing position) plain_step stop = stop
    step_stop word w h (subcommand name) plain_step stop = plain_step
    step_stop word w h value plain_step stop = positional_stop (arg_by_index s.rules w.position) word w h stop

    turn_stop : (o : Option (Text × List Text)) (w : Walk) (word : Text) → turn_passes s names (record w { stopped = o }) word ≡ true → StopsAtNoHelp o
        → StopsAtNoHelp w.stopped → StopsAtNoHelp (walked_from s.rules names o w word).stopped
    turn_stop (Some p) w word e stop same = stop
    turn_stop None w word e stop same =
        let p = both (word_passes s names w.is_trailing w.waiting word w.held) _ e in
        step_stop word w _ _ (word_no_help w.is_trailing w.waiting w.position word w.held p.0) same

    walk_stop : (w : Walk) (words : List Text) → walk_passes s names w words ≡ true → StopsAtNoHelp w.stopped
        → StopsAtNoHelp (fold (walked s.rules names) w words).stopped
    unfolding walk_passes walked
    walk_stop w [] e stop = stop
    walk_stop w (word ∷ words) e stop =
        let p = both (turn_passes s names w word) _ e in
        walk_stop (walked s.rules names w word) words p.1 (turn_stop w.stopped w word p.0 stop stop)

    -- words that pass stop at no subcommand for help
    pub stop_no_help : (words : List Text) (has : Bool) (p : Text × List Text) → level_passes s names nothing_held words has ≡ true
        → (walk s.rules names nothing_held words).stopped ≡ Some p → bytes_eq p.0 (codes "help") ≡ false
    stop_no_help words has p e stop = subst StopsAtNoHelp stop (walk_stop (walk_from nothing_held) words (both (walk_passes s names (walk_from nothing_held) words) _ e).0 tt)

-- the rows of a command that takes the words: each has a first value, and those of its required arguments are given
pub level_each : (s : Shape) → Each (IsKnown s.rules) s.rules → (words : List Text) → level_passes s [] nothing_held words false ≡ true
    → Each (HasFirst s.rules) (rows_after s.rules [] words) × (list_all (λ a. not a.required || is_given a.id (rows_after s.rules [] words)) s.rules ≡ true)
level_each s known words e =
    let p = both (walk_passes s [] (walk_from nothing_held) words) _ e in
    let end = (walk s.rules [] nothing_held words).held in
    let q = both (settle_passes s.rules s.args_override_self end) _ p.1 in
    let r = both (list_all default_passes s.rules) _ q.1 in
    let held = walk_each s [] known (walk_from nothing_held) words p.0 tt in (
      defaults_each s.rules s.args_override_self known s.rules _ known r.0 (settled_each s.rules s.args_override_self known end q.0 held),
      required (both _ _ (both _ _ (both (not s.arg_required_else_help || (false || list_any (λ (r : Row). explicit_source r.source) (finished s.rules end))) _ r.1).1).1).1,
    )
  where
    required : ((s.subcommand_negates_reqs && false) || list_all (λ a. not a.required || is_given a.id (rows_after s.rules [] words)) s.rules) ≡ true
        → list_all (λ a. not a.required || is_given a.id (rows_after s.rules [] words)) s.rules ≡ true
    required e = elim (either _ _ e) [
      | inl negated ↦ absurd (true≢false (sym (both s.subcommand_negates_reqs false negated).1))
      | inr all ↦ all
    ]
