-- What a map by names stands for.
use Rattle.std.proofs.Common.{◌≡◌, ◌∙◌, ap, sym, refl, Bool, true, false, cond, List, [], ◌∷◌, ℕ, Option, Some, None, map}
use Rattle.std.specs.Prelude.{option_map, option_copied, String, Vec, Result, Ok, Err, OnErr}
use Rattle.std.proofs.lemmas.Slice.Eq.{bytes_eq-Decides}
use Rattle.dpl_host.specs.Outside.{Files}
use Rattle.std.specs.Borrow.{Bor}
use Rattle.std.specs.Ordering.{nat_cmp, eq_by_cmp}
use Rattle.std.specs.Cmp.{eq_by_cmp_equiv}
use Rattle.std.specs.Cmp.Lexicographic.{slice_cmp, nat_list_cmp_total}
use Rattle.std.specs.FinMap.{find, get, get-from_entries, get-insert, insert, same_map}
use Rattle.std.specs.BTreeMap.{BTreeMap, UpdatesBy, get_by_text, is_at}
use Rattle.std.specs.Map.{lookup}
use Rattle.std.specs.Str.{bytes_eq}
use Rattle.std.specs.String.{string_bytes, string_cmp}
use Rattle.std.specs.declared.alloc.Global.{Global}
use Rattle.std.proofs.lemmas.Map.Text.{btree_map_updates_text, is_eq-slice_cmp}
use Rattle.dpl_host.specs.Memory.{entry_of, files_of}
use Rattle.dpl_host.proofs.Files.{exact_names}

abbrev Kept : Type 0
Kept = BTreeMap (String Global) (Vec ℕ Global)

over : {A B : Type 0} (f : A → B) (b : Bool) (x : A) (o : Option A) → option_map f (cond b (Some x) o) ≡ cond b (Some (f x)) (option_map f o)
over f true x o = refl
over f false x o = refl

found : (es : List (String Global × Vec ℕ Global)) (q : List ℕ) → find (slice_cmp nat_cmp) q (map entry_of es) ≡ option_map (λ v. v.items)
    (lookup (is_at (λ k. slice_cmp nat_cmp q (string_bytes k))) es)
found [] q = refl
found (e ∷ es) q =
    ap (cond (is_at (λ k. slice_cmp nat_cmp q (string_bytes k)) e.0) (Some e.1.items)) (found es q)
    ∙ sym (over (λ v. v.items) (is_at (λ k. slice_cmp nat_cmp q (string_bytes k)) e.0) e.1 _)

pub files_get : (m : Kept) (q : List ℕ) → get (files_of m.entries) q ≡ option_map (λ v. v.items) (get_by_text m q)
files_get m q = get-from_entries nat_list_cmp_total (map entry_of m.entries) q ∙ found m.entries q

same_test : (a b : List ℕ) → eq_by_cmp (slice_cmp nat_cmp) a b ≡ bytes_eq b a
same_test a b = (eq_by_cmp_equiv nat_list_cmp_total).symm a b ∙ is_eq-slice_cmp b a

-- a map that has another file at one name stands for the files with that one
pub changed : (m n : Kept) (name : List ℕ) (w : Vec ℕ Global) → UpdatesBy string_cmp (λ k. slice_cmp nat_cmp name (string_bytes k)) m n (Some w)
    → files_of n.entries ≡ insert (files_of m.entries) name w.items
changed m n name w updates = same_map nat_list_cmp_total exact_names _ _ (λ q.
    files_get n q
    ∙ ap (option_map (λ v. v.items)) (btree_map_updates_text name m n (Some w) updates q)
    ∙ over (λ v. v.items) (bytes_eq name q) w (get_by_text m q)
    ∙ sym (get-insert nat_list_cmp_total (files_of m.entries) name w.items q
    ∙ ap (λ (b : Bool). cond b (Some w.items) (get (files_of m.entries) q)) (same_test q name)
    ∙ ap (cond (bytes_eq name q) (Some w.items)) (files_get m q)))

pub of_copied : (o : Option (Bor (Vec ℕ Global))) → option_map (λ v. v.now.items) o ≡ option_map (λ v. v.items) (option_copied o)
of_copied None = refl
of_copied (Some v) = refl

-- what holds holds at an error
pub at_err : {T E : Type 0} (r : Result T E) (P : Type 0) → P → OnErr r P
at_err (Ok x) P p = tt
at_err (Err e) P p = p

some_or_none : (f : Option (List ℕ)) (bytes : List ℕ) → f ≡ Some bytes → f ≡ None → ⊥
some_or_none f bytes there none = cc

pub is_there : {T E : Type 0} (r : Result T E) (f : Option (List ℕ)) (bytes : List ℕ) → f ≡ Some bytes → OnErr r (f ≡ None → ⊥)
is_there r f bytes there = at_err r (f ≡ None → ⊥) (some_or_none f bytes there)

kept_value : (b : Bool) (v f : Option (List ℕ)) → (b ≡ true → f ≡ v) → cond b v f ≡ f
kept_value true v f h = sym (h refl)
kept_value false v f h = refl

same_as : (m : Files) (k q : List ℕ) → bytes_eq k q ≡ true → get m q ≡ get m k
same_as m k q h = ap (get m) (sym ((bytes_eq-Decides k q).0 h))

-- to put what is there changes nothing
pub put_same : (m : Files) (k v : List ℕ) → get m k ≡ Some v → insert m k v ≡ m
put_same m k v there = same_map nat_list_cmp_total exact_names _ _ (λ q.
    get-insert nat_list_cmp_total m k v q
    ∙ ap (λ (b : Bool). cond b (Some v) (get m q)) (same_test q k)
    ∙ kept_value (bytes_eq k q) (Some v) (get m q) (λ h. same_as m k q h ∙ there))
