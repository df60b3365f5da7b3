-- The rows that a list of defaults and a list of required arguments leave.
use Rattle.std.proofs.Common.{◌≡◌, ◌∙◌, ◌⊎◌, ◌&&◌, ◌||◌, Bool, cond, not, true, false, true≢false, List, [], ◌∷◌, ◌++◌, Some, None, refl, sym, ap, subst, inl, inr}
use Rattle.std.specs.Prelude.{find, fold}
use Rattle.std.specs.List.{list_any}
use Rattle.std.specs.Option.{option_map_or}
use Rattle.std.specs.Str.{bytes_eq}
use Rattle.std.proofs.lemmas.Slice.Eq.{bytes_eq-Decides}
use Rattle.clap.specs.Facts.{explicit_source}
use Rattle.clap.specs.Takes.{is_given}
use Rattle.clap.specs.Walk.{Row, Rule, Text, arg_by_id, default_rows, has_row, more_values, reading_by, with_default, with_values}
use Rattle.clap.specs.declared.builder.value_parser.Reading.{Reading}
use Rattle.clap.specs.declared.parser.matches.ValueSource.{ValueSource}
use Rattle.clap.proofs.WalkLemmas.{both}
use Rattle.clap.proofs.SimpleLemmas.{is_false}
use Rattle.dpl_words.proofs.Walking.{EachRow, HasEach, IsIn}

-- ---- rows that stay

or_more : (mine x y : Bool) → (mine || x) ≡ true → (x ≡ true → y ≡ true) → (mine || y) ≡ true
or_more true x y h more = refl
or_more false x y h more = more h

has_more : (id key : Text) (how : Reading) (s : ValueSource) (vs : List Text) (rows : List Row) → has_row id rows ≡ true → has_row id (with_values key how s vs rows) ≡ true
has_more id key how s vs [] h = absurd (true≢false (sym h))
has_more id key how s vs (r ∷ rs) h = go (or_more (bytes_eq r.id id) _ _ h (has_more id key how s vs rs)) (bytes_eq r.id key)
  where
    go : (bytes_eq r.id id || has_row id (with_values key how s vs rs)) ≡ true → (b : Bool)
        → has_row id (cond b (more_values s vs r ++ rs) (r ∷ with_values key how s vs rs)) ≡ true
    go rest true = h
    go rest false = rest

same_text : (id : Text) → bytes_eq id id ≡ true
same_text id = (bytes_eq-Decides id id).1 refl

has_new : (id : Text) (how : Reading) (s : ValueSource) (vs : List Text) (rows : List Row) → has_row id (with_values id how s vs rows) ≡ true
has_new id how s vs [] = ap (λ b. b || false) (same_text id)
has_new id how s vs (r ∷ rs) = go (has_new id how s vs rs) (bytes_eq r.id id) refl
  where
    go : has_row id (with_values id how s vs rs) ≡ true → (b : Bool) → bytes_eq r.id id ≡ b
        → has_row id (cond b (more_values s vs r ++ rs) (r ∷ with_values id how s vs rs)) ≡ true
    go rest true is = ap (λ b. b || has_row id rs) is
    go rest false is = ap (λ b. b || has_row id (with_values id how s vs rs)) is ∙ rest

stays : (id : Text) (rows : List Row) (a : Rule) → has_row id rows ≡ true → has_row id (with_default rows a) ≡ true
stays id rows a h = go (has_row a.id rows) a.defaults
  where
    go : (b : Bool) (ds : List Text) → has_row id (cond b rows (default_rows a.id (reading_by a) ds rows)) ≡ true
    go true ds = h
    go false [] = h
    go false (v ∷ vs) = has_more id a.id (reading_by a) _ (v ∷ vs) rows h

stays_all : (id : Text) (rows : List Row) (xs : List Rule) → has_row id rows ≡ true → has_row id (fold with_default rows xs) ≡ true
stays_all id rows [] h = h
stays_all id rows (x ∷ xs) h = stays_all id (with_default rows x) xs (stays id rows x h)

abbrev pub HasDefault : Rule → Type 0
HasDefault a = (v : Text) × (vs : List Text) × (a.defaults ≡ v ∷ vs)

defaulted : (rows : List Row) (a : Rule) → HasDefault a → has_row a.id (with_default rows a) ≡ true
defaulted rows a d = go (has_row a.id rows) refl a.defaults d.2
  where
    go : (b : Bool) → has_row a.id rows ≡ b → (ds : List Text) → ds ≡ d.0 ∷ d.1 → has_row a.id (cond b rows (default_rows a.id (reading_by a) ds rows)) ≡ true
    go true is ds e = is
    go false is [] e = absurd (cc)
    go false is (v ∷ vs) e = has_new a.id (reading_by a) _ (v ∷ vs) rows

-- an argument with a default has a row at the end
pub default_there : (xs : List Rule) (rows : List Row) (a : Rule) → IsIn a xs → HasDefault a → has_row a.id (fold with_default rows xs) ≡ true
default_there [] rows a of d = absurd of
default_there (x ∷ xs) rows a (inl is) d = stays_all a.id (with_default rows x) xs (subst (λ y. has_row a.id (with_default rows y) ≡ true) is (defaulted rows a d))
default_there (x ∷ xs) rows a (inr of) d = default_there xs (with_default rows x) a of d

-- ---- what is required

-- no argument of the list is wanted and not given
pub required_given : (xs : List Rule) (rows : List Row) (a : Rule) → list_any (λ a. a.required && not (is_given a.id rows)) xs ≡ false
    → IsIn a xs → a.required ≡ true → is_given a.id rows ≡ true
required_given [] rows a none of wanted = absurd of
required_given (x ∷ xs) rows a none of wanted = go (λ e more. required_given xs rows a e more wanted) (x.required && not (is_given x.id rows)) refl none of
  where
    given : (r g : Bool) → (r && not g) ≡ false → r ≡ true → g ≡ true
    given r true e t = refl
    given true false e t = absurd (true≢false e)
    given false false e t = absurd (true≢false (sym t))

    go : (list_any (λ a. a.required && not (is_given a.id rows)) xs ≡ false → IsIn a xs → is_given a.id rows ≡ true) → (b : Bool)
        → (x.required && not (is_given x.id rows)) ≡ b → (b || list_any (λ a. a.required && not (is_given a.id rows)) xs) ≡ false
        → (a ≡ x) ⊎ IsIn a xs → is_given a.id rows ≡ true
    go rest true is e of = absurd (true≢false e)
    go rest false is e (inl same) = subst (λ y. is_given y.id rows ≡ true) (sym same) (given x.required (is_given x.id rows) is (subst (λ y. y.required ≡ true) same wanted))
    go rest false is e (inr of) = rest e of

-- ---- the row of an id

-- the row of this id, with values, of each of which P holds
abbrev pub HasRowWith : (Text → Reading → Text → Type 0) → Text → List Row → Type 0
HasRowWith P id rows = (r : Row) × (find (λ r. bytes_eq r.id id) rows ≡ Some r) × HasEach (P id r.reading) r.values

pub row_with : (P : Text → Reading → Text → Type 0) (id : Text) (rows : List Row) → has_row id rows ≡ true → EachRow P rows → HasRowWith P id rows
row_with P id [] has each = absurd (true≢false (sym has))
row_with P id (r ∷ rs) has each = go (λ h. row_with P id rs h each.1) (bytes_eq r.id id) refl has
  where
    go : (has_row id rs ≡ true → HasRowWith P id rs) → (b : Bool) → bytes_eq r.id id ≡ b → (b || has_row id rs) ≡ true
        → (x : Row) × (cond b (Some r) (find (λ r. bytes_eq r.id id) rs) ≡ Some x) × HasEach (P id x.reading) x.values
    go rest true is h = (r, refl, subst (λ (t : Text). HasEach (P t r.reading) r.values) ((bytes_eq-Decides r.id id).0 is) each.0)
    go rest false is h = rest h

-- without a row there is none to be found
pub no_row : (id : Text) (rows : List Row) → has_row id rows ≡ false → find (λ r. bytes_eq r.id id) rows ≡ None
no_row id [] e = refl
no_row id (r ∷ rs) e = go (no_row id rs) (bytes_eq r.id id) e
  where
    go : (has_row id rs ≡ false → find (λ r. bytes_eq r.id id) rs ≡ None) → (b : Bool) → (b || has_row id rs) ≡ false
        → cond b (Some r) (find (λ r. bytes_eq r.id id) rs) ≡ None
    go rest true e = absurd (true≢false e)
    go rest false e = rest e

pub given_has : (id : Text) (rows : List Row) → is_given id rows ≡ true → has_row id rows ≡ true
given_has id [] e = absurd (true≢false (sym e))
given_has id (r ∷ rs) e = go (given_has id rs) (bytes_eq r.id id) e
  where
    go : (is_given id rs ≡ true → has_row id rs ≡ true) → (b : Bool)
        → option_map_or (λ (r : Row). explicit_source r.source) (cond b (Some r) (find (λ r. bytes_eq r.id id) rs)) false ≡ true → (b || has_row id rs) ≡ true
    go rest true e = refl
    go rest false e = rest e

-- ---- an argument by its id

-- no two arguments have one id
abbrev pub has_single_ids : List Rule → Bool
has_single_ids [] = true
has_single_ids (x ∷ xs) = not (list_any (λ a. bytes_eq a.id x.id) xs) && has_single_ids xs

named : (xs : List Rule) (a : Rule) → IsIn a xs → list_any (λ b. bytes_eq b.id a.id) xs ≡ true
named [] a of = absurd of
named (x ∷ xs) a (inl is) = ap (λ b. b || list_any (λ b. bytes_eq b.id a.id) xs) (subst (λ (y : Rule). bytes_eq y.id a.id ≡ true) is (same_text a.id))
named (x ∷ xs) a (inr of) = go (bytes_eq x.id a.id) (named xs a of)
  where
    go : (b : Bool) {rest : Bool} → rest ≡ true → (b || rest) ≡ true
    go true is = refl
    go false is = is

pub by_own_id : (xs : List Rule) (a : Rule) → has_single_ids xs ≡ true → IsIn a xs → arg_by_id xs a.id ≡ Some a
by_own_id [] a single of = absurd of
by_own_id (x ∷ xs) a single (inl is) = ap (λ b. cond b (Some x) (arg_by_id xs a.id)) (subst (λ (y : Rule). bytes_eq y.id a.id ≡ true) is
    (same_text a.id)) ∙ ap (λ (y : Rule). Some y) (sym is)
by_own_id (x ∷ xs) a single (inr of) = go (by_own_id xs a (both _ _ single).1 of) (bytes_eq x.id a.id) refl
  where
    go : arg_by_id xs a.id ≡ Some a → (b : Bool) → bytes_eq x.id a.id ≡ b → cond b (Some x) (arg_by_id xs a.id) ≡ Some a
    go rest false is = rest
    go rest true is =
        let same : x.id ≡ a.id = (bytes_eq-Decides x.id a.id).0 is in
        let other = is_false _ (both _ _ single).0 in
        let here = subst (λ (t : Text). list_any (λ b. bytes_eq b.id t) xs ≡ true) (sym same) (named xs a of) in
        absurd (true≢false (sym here ∙ other))
