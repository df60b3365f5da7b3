-- What `clap` has seen of each value that a walk over words keeps, for a command whose arguments take one value each and have no short names.
use Rattle.std.proofs.Common.{◌≡◌, ◌∙◌, ◌⊎◌, ◌&&◌, ◌||◌, ℕ, zero, suc, Bool, cond, true, false, List, [], ◌∷◌, ◌++◌, Option}
use Rattle.std.proofs.Common.{Some, None, refl, sym, ap, subst, inl, inr, arith, length, drop, is_some, ne_eqb}
use Rattle.std.specs.Prelude.{codes, encode_utf8, find, fold, slice_get}
use Rattle.std.specs.Option.{option_map_or}
use Rattle.std.specs.Str.{bytes_eq, chars}
use Rattle.std.proofs.lemmas.Slice.Eq.{bytes_eq-Decides}
use Rattle.clap.specs.Lexer.{long_of, short_of}
use Rattle.clap.specs.Facts.{parser_of_value, unwrap_or_range}
use Rattle.clap.specs.Kinds.{Kinds, or_else, range_kinds, request_kinds, value_kinds}
use Rattle.clap.specs.Takes.{value_passes}
use Rattle.clap.specs.Walk.{Held, Names, Outcome, Row, Rule, Step, Text, Waiting, Walk, action_of, after_flag, after_step, arg_by_id}
use Rattle.clap.specs.Walk.{arg_by_index, arg_by_long, arg_by_short, bundle, bundle_met, bundle_step, default_rows, done, flag_met, has_row}
use Rattle.clap.specs.Walk.{idle, is_empty, is_pending, long_met, long_or_other, more_values, most_values, option, option_met, option_word}
use Rattle.clap.specs.Walk.{plain, plain_word, positional, to_positional, reacted, reading_by, refused, settled, settled_rows, short_met}
use Rattle.clap.specs.Walk.{short_or_plain, subcommand_met, subcommand_or_other, takes_several, takes_values, used, used_as, used_by_id}
use Rattle.clap.specs.Walk.{waits, walked, walked_from, with_default, with_values, without, word_met}
use Rattle.clap.specs.Walk.{next, subcommand, trailing, value}
use Rattle.clap.specs.Simple.{Shape}
use Rattle.clap.specs.Faults.{action_fault, default_fault, defaults_fault, flag_word_fault, long_fault, option_fault, other_fault}
use Rattle.clap.specs.Faults.{positional_fault, react_fault, repeat_fault, set_fault, settle_fault, step_fault, stray_fault, turn_fault, use_fault}
use Rattle.clap.specs.Faults.{values_fault, walk_fault, word_fault}
use Rattle.clap.specs.declared.builder.action.ArgAction.{ArgAction}
use Rattle.clap.specs.declared.builder.action.ArgAction.TheVariants.{Append, Set, SetTrue}
use Rattle.clap.specs.declared.builder.value_parser.Reading.{Reading}
use Rattle.clap.specs.declared.error.kind.ErrorKind.{ErrorKind}
use Rattle.clap.specs.declared.error.kind.ErrorKind.TheVariants as kind
use Rattle.clap.specs.declared.parser.matches.ValueSource.{ValueSource}
use Rattle.clap.specs.declared.parser.matches.ValueSource.TheVariants.{CommandLine}

pub none_of : (a b : Kinds) → or_else a b ≡ [] → (a ≡ []) × (b ≡ [])
none_of [] b e = (refl, e)
none_of (k ∷ ks) b e = absurd (cc)

-- the argument is one of these
abbrev pub IsIn : Rule → List Rule → Type 0
IsIn a [] = ⊥
IsIn a (x ∷ xs) = (a ≡ x) ⊎ IsIn a xs

pub found_in : (p : Rule → Bool) (xs : List Rule) (a : Rule) → find p xs ≡ Some a → IsIn a xs
found_in p [] a e = absurd (cc)
found_in p (x ∷ xs) a e = go (found_in p xs a) (p x) e
  where
    go : (find p xs ≡ Some a → IsIn a xs) → (b : Bool) → cond b (Some x) (find p xs) ≡ Some a → (a ≡ x) ⊎ IsIn a xs
    go rest true e = inl (cc)
    go rest false e = inr (rest e)

-- Q holds of each of these values
abbrev pub EachText : (Text → Type 0) → List Text → Type 0
EachText Q [] = Unit {0}
EachText Q (v ∷ vs) = Q v × EachText Q vs

-- there are values, and Q holds of each
abbrev pub HasEach : (Text → Type 0) → List Text → Type 0
HasEach Q [] = ⊥
HasEach Q (v ∷ vs) = Q v × EachText Q vs

-- each row has values, and P holds of each
abbrev pub EachRow : (Text → Reading → Text → Type 0) → List Row → Type 0
EachRow P [] = Unit {0}
EachRow P (r ∷ rs) = HasEach (P r.id r.reading) r.values × EachRow P rs

-- what is read one way is read that way beside values that are read so
abbrev pub Joins : (Text → Reading → Text → Type 0) → Type 0
Joins P = (id : Text) (how other : Reading) (u v : Text) → P id how u → P id other v → P id how v

-- a use of the argument takes one value, and a later one puts it out or stands behind it
pub record TakesOne (a : Rule) : Type 0 where
  pub action : (action_of a ≡ Set) ⊎ (action_of a ≡ Append)
  pub least : (unwrap_or_range a.range).start_inclusive ≡ 1

-- a use of the argument stands for one value, and a later one puts it out
pub record IsFlag (a : Rule) : Type 0 where
  pub action : action_of a ≡ SetTrue
  pub missing : a.missing ≡ codes "true" ∷ []

-- a use of the argument leaves one value
abbrev pub LeavesOne : Rule → Type 0
LeavesOne a = TakesOne a ⊎ IsFlag a

-- the action keeps the values of a use
abbrev Keeps : ArgAction → Type 0
Keeps does = ((does ≡ Set) ⊎ (does ≡ Append)) ⊎ (does ≡ SetTrue)

keeps_by : (a : Rule) → LeavesOne a → Keeps (action_of a)
keeps_by a (inl one) = inl one.action
keeps_by a (inr flag) = inr flag.action

passed : (b : Bool) (k : ErrorKind) → cond b [] (k ∷ []) ≡ [] → b ≡ true
passed true k e = refl
passed false k e = absurd (cc)

some_values : (v : Text) (vs : List Text) → is_empty (v ∷ vs) ≡ false
some_values v vs = ne_eqb _ _ (λ e. omega arith)

module _ (P : Text → Reading → Text → Type 0) (joined : Joins P) where
  without_kept : (id : Text) (rows : List Row) → EachRow P rows → EachRow P (without id rows)
  without_kept id [] h = tt
  without_kept id (r ∷ rs) h = go (without_kept id rs h.1) (bytes_eq r.id id)
    where
      go : EachRow P (without id rs) → (b : Bool) → EachRow P (cond b ([] ++ rs) (r ∷ without id rs))
      go rest true = h.1
      go rest false = (h.0, rest)

  all_more : (id : Text) (how other : Reading) (u : Text) (vs more : List Text) → P id how u → EachText (P id how) vs → EachText (P id other) more
      → EachText (P id how) (vs ++ more)
  all_more id how other u [] [] p h m = tt
  all_more id how other u [] (v ∷ more) p h m = (joined id how other u v p m.0, all_more id how other u [] more p tt m.1)
  all_more id how other u (v ∷ vs) more p h m = (h.0, all_more id how other u vs more p h.1 m)

  each_more : (id : Text) (how other : Reading) (vs more : List Text) → HasEach (P id how) vs → EachText (P id other) more → HasEach (P id how) (vs ++ more)
  each_more id how other [] more h m = absurd h
  each_more id how other (v ∷ vs) more h m = (h.0, all_more id how other v vs more h.0 h.1 m)

  with_kept : (id : Text) (how : Reading) (s : ValueSource) (v : Text) (vs : List Text) (rows : List Row) → EachText (P id how) (v ∷ vs) → EachRow P rows
      → EachRow P (with_values id how s (v ∷ vs) rows)
  with_kept id how s v vs [] p h = (p, tt)
  with_kept id how s v vs (r ∷ rs) p h = go (with_kept id how s v vs rs p h.1) (bytes_eq r.id id) refl
    where
      go : EachRow P (with_values id how s (v ∷ vs) rs) → (b : Bool) → bytes_eq r.id id ≡ b
          → EachRow P (cond b (more_values s (v ∷ vs) r ++ rs) (r ∷ with_values id how s (v ∷ vs) rs))
      go rest true is =
          let mine = subst (λ (t : Text). EachText (P t how) (v ∷ vs)) (sym ((bytes_eq-Decides r.id id).0 is)) p in
          (each_more r.id r.reading how r.values (v ∷ vs) h.0 mine, h.1)
      go rest false is = (h.0, rest)

-- ---- the walk

module _ (s : Shape) (P : Text → Reading → Text → Type 0) (joined : Joins P)
    (each : (a : Rule) → IsIn a s.rules → (v : Text) → value_passes a v ≡ true → P a.id (reading_by a) v)
    (single : (a : Rule) → IsIn a s.rules → LeavesOne a)
    (no_short : (x : ℕ) → arg_by_short s.rules x ≡ None) where
  -- values without a fault passed their tests
  each_kept : (a : Rule) → IsIn a s.rules → (vs : List Text) → values_fault a vs ≡ [] → EachText (P a.id (reading_by a)) vs
  each_kept a of [] e = tt
  each_kept a of (v ∷ vs) e =
      let parts = none_of (value_kinds a.ignore_case (parser_of_value a.parser) v) _ e in
      (each a of v (passed _ _ parts.0), each_kept a of vs parts.1)

  -- what is set, or stands behind what was set, passed its test
  acted_kept : (a : Rule) → IsIn a s.rules → (does : ArgAction) → Keeps does → (v : Text) (vs : List Text) (rows : List Row)
      → action_fault does s.args_override_self a (v ∷ vs) rows ≡ [] → EachRow P rows → EachRow P (used_as does a.id (reading_by a) (v ∷ vs) rows)
  acted_kept a of does keeps v vs rows e h = go keeps
    where
      more : (before : List Row) → values_fault a (v ∷ vs) ≡ [] → EachRow P before → EachRow P (with_values a.id (reading_by a) CommandLine (v ∷ vs) before)
      more before values h = with_kept P joined a.id (reading_by a) _ v vs before (each_kept a of (v ∷ vs) values) h

      set : set_fault s.args_override_self a (v ∷ vs) rows ≡ [] → EachRow P (with_values a.id (reading_by a) CommandLine (v ∷ vs) (without a.id rows))
      set sets = more (without a.id rows) (none_of (repeat_fault s.args_override_self a.id rows) _ sets).1 (without_kept P joined a.id rows h)

      go : Keeps does → EachRow P (used_as does a.id (reading_by a) (v ∷ vs) rows)
      go (inl (inl is)) =
          let sets : action_fault Set s.args_override_self a (v ∷ vs) rows ≡ [] = subst (λ x. action_fault x s.args_override_self a (v ∷ vs) rows ≡ []) is e in
          let now : EachRow P (used_as Set a.id (reading_by a) (v ∷ vs) rows) = set sets in
          subst (λ x. EachRow P (used_as x a.id (reading_by a) (v ∷ vs) rows)) (sym is) now
      go (inl (inr is)) =
          let adds : action_fault Append s.args_override_self a (v ∷ vs) rows ≡ [] = subst (λ x. action_fault x s.args_override_self a (v ∷ vs) rows ≡ []) is e in
          let now : EachRow P (used_as Append a.id (reading_by a) (v ∷ vs) rows) = more rows adds h in
          subst (λ x. EachRow P (used_as x a.id (reading_by a) (v ∷ vs) rows)) (sym is) now
      go (inr is) =
          let sets : action_fault SetTrue s.args_override_self a (v ∷ vs) rows ≡ [] = subst (λ x. action_fault x s.args_override_self a (v ∷ vs) rows ≡ []) is e in
          let now : EachRow P (used_as SetTrue a.id (reading_by a) (v ∷ vs) rows) = set sets in
          subst (λ x. EachRow P (used_as x a.id (reading_by a) (v ∷ vs) rows)) (sym is) now

  used_kept : (a : Rule) → IsIn a s.rules → (values : List Text) (rows : List Row) → use_fault s.args_override_self a values rows ≡ []
      → EachRow P rows → EachRow P (used a values rows)
  used_kept a of [] rows e h = elim (single a of) [
    | inl one ↦ (let range = (none_of (range_kinds (unwrap_or_range a.range).start_inclusive (most_values a) 0) _ e).0 in
        let bad = subst (λ n. range_kinds n (most_values a) 0 ≡ []) one.least range in
        absurd (cc))
    | inr flag ↦ (let does : action_fault (action_of a) s.args_override_self a a.missing rows ≡ [] =
        (none_of (range_kinds (unwrap_or_range a.range).start_inclusive (most_values a) 0) _ e).1 in
        let stands : action_fault (action_of a) s.args_override_self a (codes "true" ∷ []) rows ≡ [] =
        subst (λ (vs : List Text). action_fault (action_of a) s.args_override_self a vs rows ≡ []) flag.missing does in
        subst (λ (vs : List Text). EachRow P (used_as (action_of a) a.id (reading_by a) vs rows)) (sym flag.missing)
        (acted_kept a of (action_of a) (inr flag.action) (codes "true") [] rows stands h))
  ]
  used_kept a of (v ∷ vs) rows e h =
      let does = (none_of (range_kinds (unwrap_or_range a.range).start_inclusive (most_values a) (length (v ∷ vs))) _ e).1 in
      acted_kept a of (action_of a) (keeps_by a (single a of)) v vs rows does h

  pub settled_kept : (h : Held) → settle_fault s.rules s.args_override_self h ≡ [] → EachRow P h.rows → EachRow P (settled s.rules h).rows
  settled_kept h e each_held = go h.pending e
    where
      by_id : (id : Text) (values : List Text) (o : Option Rule) → arg_by_id s.rules id ≡ o
          → option_map_or (λ a. use_fault s.args_override_self a values h.rows) o [] ≡ [] → EachRow P (used_by_id o values h.rows)
      by_id id values None is e = each_held
      by_id id values (Some a) is e = used_kept a (found_in _ s.rules a is) values h.rows e each_held

      go : (p : Option (Text × List Text))
          → option_map_or (λ p. option_map_or (λ a. use_fault s.args_override_self a p.1 h.rows) (arg_by_id s.rules p.0) []) p [] ≡ []
          → EachRow P (settled_rows s.rules p h.rows)
      go None e = each_held
      go (Some p) e = by_id p.0 p.1 (arg_by_id s.rules p.0) refl e

  reacted_kept : (a : Rule) → IsIn a s.rules → (values : List Text) (h : Held) → react_fault s.rules s.args_override_self a values h ≡ []
      → EachRow P h.rows → EachRow P (reacted s.rules a values h).rows
  reacted_kept a of values h e each_held =
      let parts = none_of (settle_fault s.rules s.args_override_self h) _ e in
      used_kept a of values (settled s.rules h).rows parts.1 (settled_kept h parts.0 each_held)

  option_kept : (a : Rule) → IsIn a s.rules → (v : Option Text) (h : Held) → option_fault s.rules s.args_override_self a v h ≡ []
      → EachRow P h.rows → EachRow P (option_met s.rules a v h).0.rows
  option_kept a of (Some v) h e each_held = reacted_kept a of (v ∷ []) h e each_held
  option_kept a of None h e each_held = settled_kept h e each_held

  long_kept : (o : Option Rule) → ((a : Rule) → o ≡ Some a → IsIn a s.rules) → (v : Option Text) (h : Held)
      → long_fault s.rules s.args_override_self o v h ≡ [] → EachRow P h.rows → EachRow P (long_met s.rules o v h).0.rows
  long_kept None of v h e each_held = each_held
  long_kept (Some a) of v h e each_held = go (takes_values a) e
    where
      flag : (v : Option Text) → cond (is_some v) (kind.TooManyValues ∷ []) (react_fault s.rules s.args_override_self a [] h) ≡ []
          → EachRow P (flag_met s.rules a v h).0.rows
      flag (Some x) e = each_held
      flag None e = reacted_kept a (of a refl) [] h e each_held

      go : (b : Bool) → cond b (option_fault s.rules s.args_override_self a v h)
          (cond (is_some v) (kind.TooManyValues ∷ []) (react_fault s.rules s.args_override_self a [] h)) ≡ []
          → EachRow P (cond b (option_met s.rules a v h) (flag_met s.rules a v h)).0.rows
      go true e = option_kept a (of a refl) v h e each_held
      go false e = flag v e

  plain_rows : (waiting : Waiting) (word : Text) (h : Held) → (plain_word s.rules waiting word h).0.rows ≡ h.rows
  plain_rows idle word h = refl
  plain_rows positional word h = refl
  plain_rows (option id) word h = go (arg_by_id s.rules id)
    where
      go : (o : Option Rule) → (option_word o id word h).0.rows ≡ h.rows
      go None = refl
      go (Some a) = refl

  after_rows : (waiting : Waiting) (word : Text) (h : Held) (o : Outcome) → (after_flag s.rules waiting word h o).0.rows ≡ h.rows
  after_rows waiting word h done = refl
  after_rows waiting word h (waits id) = refl
  after_rows waiting word h plain = plain_rows waiting word h
  after_rows waiting word h refused = plain_rows waiting word h

  bundle_rows : (k : ℕ) (flags : Text) (skip : ℕ) (so_far : Outcome) (h : Held) → (bundle_met s.rules k flags skip so_far h).0.rows ≡ h.rows
  unfolding bundle_met
  bundle_rows zero flags skip so_far h = refl
  bundle_rows (suc k) flags skip so_far h = go (bundle_rows k) (slice_get (chars flags) 0) skip
    where
      go : ((flags : Text) (skip : ℕ) (so_far : Outcome) (h : Held) → (bundle_met s.rules k flags skip so_far h).0.rows ≡ h.rows) → (o : Option ℕ) (n : ℕ)
          → (bundle_step s.rules o flags n so_far h (bundle_met s.rules k)).0.rows ≡ h.rows
      go rest None n = refl
      go rest (Some x) zero = ap
          (λ (o : Option Rule). (short_met s.rules o (drop (length (encode_utf8 x)) flags) h
          (bundle_met s.rules k (drop (length (encode_utf8 x)) flags) 0 done)).0.rows) (no_short x)
      go rest (Some x) (suc n) = rest (drop (length (encode_utf8 x)) flags) n so_far h

  word_kept : (names : Names) (is_trailing : Bool) (waiting : Waiting) (position : ℕ) (word : Text) (h : Held)
      → word_fault s names is_trailing waiting word h ≡ [] → EachRow P h.rows
      → EachRow P (word_met s.rules names is_trailing waiting position word h).0.rows
  word_kept names true waiting position word h e each_held = each_held
  word_kept names false waiting position word h e each_held = sub (subcommand_met names waiting word) e
    where
      flag : (o : Option (Text × Option Text)) → flag_word_fault s.rules s.args_override_self o word h ≡ [] → EachRow P (long_or_other s.rules waiting word o h).0.rows
      flag (Some p) e =
          let met = long_met s.rules (arg_by_long s.rules p.0) p.1 h in
          subst (EachRow P) (sym (after_rows waiting word met.0 met.1)) (long_kept (arg_by_long s.rules p.0) (λ a is. found_in _ s.rules a is) p.1 h e each_held)
      flag None e = bundled (short_of word)
        where
          bundled : (o : Option Text) → EachRow P (short_or_plain s.rules waiting word o h).0.rows
          bundled None = subst (EachRow P) (sym (plain_rows waiting word h)) each_held
          bundled (Some flags) =
              let met = bundle s.rules flags h in
              subst (EachRow P) (sym (after_rows waiting word met.0 met.1 ∙ bundle_rows (length flags) flags h.skip plain (record h { skip = 0 }))) each_held

      dashes : (b : Bool) → cond b [] (flag_word_fault s.rules s.args_override_self (long_of word) word h) ≡ []
          → EachRow P (cond b (h, trailing position) (long_or_other s.rules waiting word (long_of word) h)).0.rows
      dashes true e = each_held
      dashes false e = flag (long_of word) e

      sub : (o : Option Text) → other_fault s o word h ≡ [] → EachRow P (subcommand_or_other s.rules o waiting position word h).0.rows
      sub (Some name) e = each_held
      sub None e = dashes (bytes_eq word (45 ∷ 45 ∷ [])) e

  step_kept : (w : Walk) (word : Text) (h : Held) (step : Step) → step_fault s w.position h step ≡ [] → EachRow P h.rows → EachRow P (after_step s.rules word w h step).held.rows
  step_kept w word h (next waiting) e each_held = each_held
  step_kept w word h (trailing position) e each_held = each_held
  step_kept w word h (subcommand name) e each_held = each_held
  step_kept w word h value e each_held = go (arg_by_index s.rules w.position) refl e
    where
      at : (a : Rule) (b : Bool) → cond b [] (settle_fault s.rules s.args_override_self h) ≡ [] → EachRow P (cond b h (settled s.rules h)).rows
      at a true e = each_held
      at a false e = settled_kept h e each_held

      go : (o : Option Rule) → arg_by_index s.rules w.position ≡ o → option_map_or (λ a. positional_fault s.rules s.args_override_self a h) o (stray_fault s) ≡ []
          → EachRow P (to_positional s.rules o word w h).held.rows
      go None is e = each_held
      go (Some a) is e = at a (is_pending a h.pending && takes_several a) e

  abbrev met_by : Names → Walk → Text → Held × Step
  met_by names w word = word_met s.rules names w.is_trailing w.waiting w.position word w.held

  walked_kept : (names : Names) (w : Walk) (word : Text) → turn_fault s names w word ≡ [] → EachRow P w.held.rows → EachRow P (walked s.rules names w word).held.rows
  unfolding walked
  walked_kept names w word e each_held = go w.stopped e
    where
      go : (o : Option (Text × List Text))
          → cond (is_some o) [] (or_else (word_fault s names w.is_trailing w.waiting word w.held)
          (step_fault s w.position (met_by names w word).0 (met_by names w word).1)) ≡ []
          → EachRow P (walked_from s.rules names o w word).held.rows
      go (Some p) e = each_held
      go None e =
          let parts = none_of (word_fault s names w.is_trailing w.waiting word w.held) _ e in
          step_kept w word (met_by names w word).0 (met_by names w word).1 parts.1 (word_kept names w.is_trailing w.waiting w.position word w.held parts.0 each_held)

  pub walk_kept : (names : Names) (words : List Text) (w : Walk) → walk_fault s names w words ≡ [] → EachRow P w.held.rows
      → EachRow P (fold (walked s.rules names) w words).held.rows
  unfolding walk_fault
  walk_kept names [] w e each_held = each_held
  walk_kept names (word ∷ rest) w e each_held =
      let parts = none_of (turn_fault s names w word) _ e in
      walk_kept names rest (walked s.rules names w word) parts.1 (walked_kept names w word parts.0 each_held)

  -- ---- defaults

  default_kept : (a : Rule) → IsIn a s.rules → (rows : List Row) → default_fault rows a ≡ [] → EachRow P rows → EachRow P (with_default rows a)
  default_kept a of rows e each_held = go (has_row a.id rows) a.defaults e
    where
      go : (b : Bool) (ds : List Text) → cond (b || is_empty ds) [] (or_else (request_kinds (action_of a)) (values_fault a ds)) ≡ []
          → EachRow P (cond b rows (default_rows a.id (reading_by a) ds rows))
      go true ds e = each_held
      go false [] e = each_held
      go false (v ∷ vs) e =
          let fault = subst (λ b. cond b [] (or_else (request_kinds (action_of a)) (values_fault a (v ∷ vs))) ≡ []) (some_values v vs) e in
          let values = (none_of (request_kinds (action_of a)) _ fault).1 in
          with_kept P joined a.id (reading_by a) _ v vs rows (each_kept a of (v ∷ vs) values) each_held

  pub defaults_kept : (xs : List Rule) → ((a : Rule) → IsIn a xs → IsIn a s.rules) → (rows : List Row) → defaults_fault rows xs ≡ []
      → EachRow P rows → EachRow P (fold with_default rows xs)
  unfolding defaults_fault
  defaults_kept [] of rows e each_held = each_held
  defaults_kept (x ∷ xs) of rows e each_held =
      let parts = none_of (default_fault rows x) _ e in
      defaults_kept xs (λ a h. of a (inr h)) (with_default rows x) parts.1 (default_kept x (of x (inl refl)) rows parts.0 each_held)
