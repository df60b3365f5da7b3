-- What one level of a parse that passes gives of each argument that is required or has a default.
use Rattle.std.proofs.Common.{◌≡◌, ◌∙◌, ◌⊎◌, ◌&&◌, ◌||◌, ◌<◌, ◌≤◌, ◌^◌, ℕ, Bool, cond, not, true, false, true≢false, List, [], ◌∷◌}
use Rattle.std.proofs.Common.{Option, Some, None, arith, length, map, option_map, refl, sym, ap, subst, inl, inr, is_some}
use Rattle.std.specs.Prelude.{All, codes, slice_get, option_and_then, pos}
use Rattle.std.specs.List.{list_any}
use Rattle.std.specs.Str.{bytes_eq}
use Rattle.std.proofs.lemmas.Slice.Eq.{bytes_eq-Decides}
use Rattle.std.specs.Str.Parse.{ParsesUnsigned, digits_value, without_leading_plus}
use Rattle.std.proofs.lemmas.List.Elements.{All-cons, All-nil}
use Rattle.clap.specs.Facts.{parser_of_value}
use Rattle.clap.specs.Lexer.{without_minus}
use Rattle.clap.specs.Matches.{ReadsOne}
use Rattle.clap.specs.Values.{read_as, reading_of}
use Rattle.clap.specs.ValueTests.{accepts}
use Rattle.clap.specs.Takes.{is_given, value_passes}
use Rattle.clap.specs.Walk.{Row, Rule, Text, arg_by_id, arg_by_short, first_of, has_row, many_of, nothing_held, one_of, reading_by, row_text, rows_after, settled, walk, walk_from}
use Rattle.clap.specs.Simple.{Shape}
use Rattle.clap.specs.Faults.{check_fault, defaults_fault, level_fault, settle_fault, walk_fault}
use Rattle.clap.specs.declared.builder.value_parser.Reading.{Reading}
use Rattle.clap.specs.declared.builder.value_parser.ValueParser.TheVariants as vp
use Rattle.clap.proofs.CallerReads.{signed_reads}
use Rattle.clap.proofs.ValueTestLemmas.{accepts-Accepts}
use Rattle.dpl_words.specs.Meaning.{◌>>=◌, number_at, number_below}
use Rattle.dpl_words.specs.Ranges.{AreFrom, IsFlagText, IsFrom, IsFromIfGiven, IsThere}
use Rattle.dpl_words.proofs.Numbers.{below_back, below_from, is_below}
use Rattle.dpl_words.proofs.Rows.{HasDefault, HasRowWith, by_own_id, default_there, given_has, has_single_ids, no_row, required_given, row_with}
use Rattle.dpl_words.proofs.Walking.{EachRow, EachText, HasEach, IsIn, LeavesOne, defaults_kept, none_of, settled_kept, walk_kept}

-- the value passed the test of the argument of this id, and is read as that argument says
abbrev IsPassed : List Rule → Text → Reading → Text → Type 0
IsPassed c id how v = (k : Rule) → arg_by_id c id ≡ Some k → (how ≡ reading_by k) × (value_passes k v ≡ true)

joined : (c : List Rule) (id : Text) (how other : Reading) (u v : Text) → IsPassed c id how u → IsPassed c id other v → IsPassed c id how v
joined c id how other u v p q k found = ((p k found).0, (q k found).1)

pub record IsPlainLevel (s : Shape) : Type 0 where
  pub single : (a : Rule) → IsIn a s.rules → LeavesOne a
  pub no_short : (x : ℕ) → arg_by_short s.rules x ≡ None
  pub apart : has_single_ids s.rules ≡ true

-- a first value of the argument is there, and passed its test
pub record IsRead (a : Rule) (rows : List Row) : Type 0 where
  pub text : Text
  pub first : first_of a.id rows ≡ Some text
  pub one : one_of a.id rows ≡ Some (read_as (reading_by a) text)
  pub passes : value_passes a text ≡ true

-- values of the argument are there, and each passed its test
pub record AreRead (a : Rule) (rows : List Row) : Type 0 where
  pub texts : List Text
  pub many : many_of a.id rows ≡ Some (map (read_as (reading_by a)) texts)
  pub some : 1 ≤ length texts
  pub pass : EachText (λ t. value_passes a t ≡ true) texts

module _ (s : Shape) (is : IsPlainLevel s) where
  each : (a : Rule) → IsIn a s.rules → (v : Text) → value_passes a v ≡ true → IsPassed s.rules a.id (reading_by a) v
  each a of v ok k found =
      let own = by_own_id s.rules a is.apart of in
      let same : a ≡ k = cc in
      subst (λ y. (reading_by a ≡ reading_by y) × (value_passes y v ≡ true)) same (refl, ok)

  pub each_row : (words : List Text) (has : Bool) → level_fault s [] nothing_held words has [] ≡ []
      → EachRow (IsPassed s.rules) (rows_after s.rules [] words) × (check_fault s (rows_after s.rules [] words) has ≡ [])
  each_row words has e =
      let end = (walk s.rules [] nothing_held words).held in
      let a = none_of (walk_fault s [] (walk_from nothing_held) words) _ e in
      let b = none_of (settle_fault s.rules s.args_override_self end) _ a.1 in
      let c = none_of (defaults_fault (settled s.rules end).rows s.rules) _ b.1 in
      let kept = walk_kept s (IsPassed s.rules) (joined s.rules) each is.single is.no_short [] words (walk_from nothing_held) a.0 tt in
      let last = settled_kept s (IsPassed s.rules) (joined s.rules) each is.single is.no_short end b.0 kept in
      (defaults_kept s (IsPassed s.rules) (joined s.rules) each is.single is.no_short s.rules (λ a of. of) (settled s.rules end).rows c.0 last, c.1)

  read_row : (a : Rule) → IsIn a s.rules → (rows : List Row) → HasRowWith (IsPassed s.rules) a.id rows → IsRead a rows
  read_row a of rows h = go h.0.values refl h.2
    where
      go : (vs : List Text) → h.0.values ≡ vs → HasEach (IsPassed s.rules a.id h.0.reading) vs → IsRead a rows
      go [] e none = absurd none
      go (v ∷ vs) e passed =
          let ok = passed.0 a (by_own_id s.rules a is.apart of) in
          record {
            text = v;
            first = ap (option_and_then (λ (r : Row). slice_get r.values 0)) h.1 ∙ ap (λ (xs : List Text). slice_get xs 0) e;
            one = ap (option_and_then row_text) h.1 ∙ ap (λ (xs : List Text). row_text (record h.0 { values = xs })) e ∙ ap (λ (how : Reading). Some (read_as how v)) ok.0;
            passes = ok.1;
          }

  reads_row : (a : Rule) → IsIn a s.rules → (rows : List Row) → HasRowWith (IsPassed s.rules) a.id rows → AreRead a rows
  reads_row a of rows h =
      let all = go h.0.values h.2 in
      record {
        texts = h.0.values;
        many = ap (option_map (λ (r : Row). map (read_as r.reading) r.values)) h.1 ∙ ap (λ (how : Reading). Some (map (read_as how) h.0.values)) all.0;
        some = all.1;
        pass = all.2;
      }
    where
      own : arg_by_id s.rules a.id ≡ Some a
      own = by_own_id s.rules a is.apart of

      rest : (vs : List Text) → EachText (IsPassed s.rules a.id h.0.reading) vs → EachText (λ t. value_passes a t ≡ true) vs
      rest [] e = tt
      rest (v ∷ vs) e = ((e.0 a own).1, rest vs e.1)

      go : (vs : List Text) → HasEach (IsPassed s.rules a.id h.0.reading) vs
          → (h.0.reading ≡ reading_by a) × (1 ≤ length vs) × EachText (λ t. value_passes a t ≡ true) vs
      go [] none = absurd none
      go (v ∷ vs) each = ((each.0 a own).0, omega arith, ((each.0 a own).1, rest vs each.1))

  pub default_read : (a : Rule) → IsIn a s.rules → HasDefault a → (words : List Text)
      → EachRow (IsPassed s.rules) (rows_after s.rules [] words) → IsRead a (rows_after s.rules [] words)
  default_read a of d words each_held =
      let end = (walk s.rules [] nothing_held words).held in
      read_row a of (rows_after s.rules [] words) (row_with _ a.id (rows_after s.rules [] words) (default_there s.rules (settled s.rules end).rows a of d) each_held)

  pub required_read : (a : Rule) → IsIn a s.rules → a.required ≡ true → (rows : List Row)
      → list_any (λ a. a.required && not (is_given a.id rows)) s.rules ≡ false → EachRow (IsPassed s.rules) rows
      → IsRead a rows
  required_read a of wanted rows none each_held =
      read_row a of rows (row_with _ a.id rows (given_has a.id rows (required_given s.rules rows a none of wanted)) each_held)

  pub required_reads : (a : Rule) → IsIn a s.rules → a.required ≡ true → (rows : List Row)
      → list_any (λ a. a.required && not (is_given a.id rows)) s.rules ≡ false → EachRow (IsPassed s.rules) rows
      → AreRead a rows
  required_reads a of wanted rows none each_held =
      reads_row a of rows (row_with _ a.id rows (given_has a.id rows (required_given s.rules rows a none of wanted)) each_held)

  -- an argument without a row was left out
  pub row_read : (a : Rule) → IsIn a s.rules → (rows : List Row) → EachRow (IsPassed s.rules) rows → (one_of a.id rows ≡ None) ⊎ IsRead a rows
  row_read a of rows each_held = go (has_row a.id rows) refl
    where
      go : (b : Bool) → has_row a.id rows ≡ b → (one_of a.id rows ≡ None) ⊎ IsRead a rows
      go true is = inr (read_row a of rows (row_with _ a.id rows is each_held))
      go false is = inl (ap (option_and_then row_text) (no_row a.id rows is))

-- ---- numbers

below_reads : (k : ℕ) (t : Text) → ReadsOne {T = ℕ} {E = Unit {0}} (ParsesUnsigned k 10) t (number_below k t)
below_reads k t = go (is_below k t) refl
  where
    go : (b : Bool) → is_below k t ≡ b → ReadsOne {T = ℕ} {E = Unit {0}} (ParsesUnsigned k 10) t (cond b (Some (digits_value 10 (without_leading_plus t))) None)
    go true e = (below_from k t e, refl)
    go false e = (tt, λ h. true≢false (sym (below_back k t h) ∙ e))

-- a text that passed a test of whole numbers writes one in its range
passed_number : (k low high : ℕ) (a : Rule) → high < 2 ^ k → a.parser ≡ Some (vp.Signed (pos low) (pos high)) → (t : Text) → value_passes a t ≡ true
    → IsFrom low high (number_below k (read_as (reading_by a) t))
passed_number k low high a fits parser t passes =
    let ok = subst (λ p. accepts a.ignore_case (parser_of_value p) t ≡ true) parser passes in
    let signed = accepts-Accepts a.ignore_case (vp.Signed (pos low) (pos high)) t ok in
    let got = signed_reads (Unit {0}) (ParsesUnsigned k 10) k low high t (number_below k (without_minus t))
    (below_reads k (without_minus t)) (λ u x g. g) fits signed in
    let read : read_as (reading_by a) t ≡ without_minus t = ap (λ p. read_as (reading_of (parser_of_value p)) t) parser in
    let at : number_below k (read_as (reading_by a) t) ≡ Some got.0 = ap (number_below k) read ∙ got.1 in
    subst (IsFrom low high) (sym at) (got.2, got.3)

-- a number that passed a test of whole numbers is there, and in its range
pub number_read : (k low high : ℕ) (a : Rule) (rows : List Row) → high < 2 ^ k → a.parser ≡ Some (vp.Signed (pos low) (pos high))
    → IsRead a rows → IsFrom low high (number_at k a.id rows)
number_read k low high a rows fits parser read =
    subst (λ (o : Option Text). IsFrom low high (o >>= number_below k)) (sym read.one) (passed_number k low high a fits parser read.text read.passes)

-- and so are several
pub numbers_read : (k low high : ℕ) (a : Rule) (rows : List Row) → high < 2 ^ k → a.parser ≡ Some (vp.Signed (pos low) (pos high))
    → AreRead a rows → AreFrom k low high (many_of a.id rows)
numbers_read k low high a rows fits parser read = subst (AreFrom k low high) (sym read.many) (count read.texts read.some, all read.texts read.pass)
  where
    count : (ts : List Text) → 1 ≤ length ts → 1 ≤ length (map (read_as (reading_by a)) ts)
    count [] h = h
    count (t ∷ ts) h = omega arith

    all : (ts : List Text) → EachText (λ t. value_passes a t ≡ true) ts → All (λ t. IsFrom low high (number_below k t)) (map (read_as (reading_by a)) ts)
    all [] h = All-nil (λ (t : Text). IsFrom low high (number_below k t))
    all (t ∷ ts) h = All-cons (λ (t : Text). IsFrom low high (number_below k t)) _ _ (passed_number k low high a fits parser t h.0) (all ts h.1)

-- and so is one that may be left out, where it is there
pub given_read : (k low high : ℕ) (a : Rule) (rows : List Row) → high < 2 ^ k → a.parser ≡ Some (vp.Signed (pos low) (pos high))
    → (one_of a.id rows ≡ None) ⊎ IsRead a rows → IsFromIfGiven low high (number_at k a.id rows)
given_read k low high a rows fits parser (inl none) = subst (λ (o : Option Text). IsFromIfGiven low high (o >>= number_below k)) (sym none) tt
given_read k low high a rows fits parser (inr read) = if_given (number_at k a.id rows) (number_read k low high a rows fits parser read)
  where
    if_given : (o : Option ℕ) → IsFrom low high o → IsFromIfGiven low high o
    if_given None h = tt
    if_given (Some n) h = h

-- a number that passed a test of whole numbers of 64 bits is there, and in its range
pub word_read : (low high : ℕ) (a : Rule) (rows : List Row) → a.parser ≡ Some (vp.Unsigned low high) → IsRead a rows → IsFrom low high (number_at 64 a.id rows)
word_read low high a rows parser read =
    let ok = subst (λ p. accepts a.ignore_case (parser_of_value p) read.text ≡ true) parser read.passes in
    let passed = accepts-Accepts a.ignore_case (vp.Unsigned low high) read.text ok in
    let one : one_of a.id rows ≡ Some read.text = read.one ∙ ap (λ p. Some (read_as (reading_of (parser_of_value p)) read.text)) parser in
    let below : is_below 64 read.text ≡ true = below_back 64 read.text (passed.0, passed.1) in
    let at : number_at 64 a.id rows ≡ Some (digits_value 10 (without_leading_plus read.text)) = ap
    (λ (o : Option Text). o >>= number_below 64) one
    ∙ ap (λ (b : Bool). cond b (Some (digits_value 10 (without_leading_plus read.text))) None) below in
    subst (IsFrom low high) (sym at) (passed.2, passed.3)

-- a flag's value that passed its test says that it is given, or that it isn't
pub flag_read : (a : Rule) (rows : List Row) → a.parser ≡ Some vp.Bool → IsRead a rows → IsFlagText (one_of a.id rows)
flag_read a rows parser read =
    let ok = subst (λ p. accepts a.ignore_case (parser_of_value p) read.text ≡ true) parser read.passes in
    let one : one_of a.id rows ≡ Some read.text = read.one ∙ ap (λ p. Some (read_as (reading_of (parser_of_value p)) read.text)) parser in
    subst IsFlagText (sym one) (either (bytes_eq read.text (codes "true")) refl ok)
  where
    either : (b : Bool) → bytes_eq read.text (codes "true") ≡ b → (b || bytes_eq read.text (codes "false")) ≡ true
        → (read.text ≡ codes "true") ⊎ (read.text ≡ codes "false")
    either true is e = inl ((bytes_eq-Decides read.text (codes "true")).0 is)
    either false is e = inr ((bytes_eq-Decides read.text (codes "false")).0 e)

pub text_read : (a : Rule) (rows : List Row) → IsRead a rows → IsThere (first_of a.id rows)
text_read a rows read = ap (λ (o : Option Text). is_some o) read.first
