-- Files by their names.
use Rattle.std.proofs.Common.{◌≡◌, ◌∙◌, ◌++◌, ap, sym, refl, Bool, true, false, cond, List, [], ℕ, Option, Some, None}
use Rattle.std.specs.Prelude.{unwrap_or, option_map}
use Rattle.std.specs.Ordering.{nat_cmp, eq_by_cmp}
use Rattle.std.specs.Cmp.{eq_by_cmp_equiv}
use Rattle.std.specs.Cmp.Lexicographic.{slice_cmp, nat_list_cmp_total}
use Rattle.std.specs.FinMap.{IsAntisymmetric, get, get-insert, insert, nat_cmp-IsAntisymmetric, same_map, slice_cmp-IsAntisymmetric}
use Rattle.std.proofs.lemmas.List.{append_assoc}
use Rattle.dpl_host.specs.Outside.{Files, Outside, file_of, with_file, with_more, with_said}

pub exact_names : IsAntisymmetric (slice_cmp nat_cmp)
exact_names = slice_cmp-IsAntisymmetric nat_cmp-IsAntisymmetric

same_name : (k : List ℕ) → eq_by_cmp (slice_cmp nat_cmp) k k ≡ true
same_name k = (eq_by_cmp_equiv nat_list_cmp_total).refl k

-- what was just put is there
pub file_put : (o : Outside) (name bytes : List ℕ) → file_of (with_file name bytes o) name ≡ Some bytes
file_put o name bytes = get-insert nat_list_cmp_total o.files name bytes name ∙ ap (λ (b : Bool). cond b (Some bytes) (get o.files name)) (same_name name)

last_wins : (b : Bool) (v w f : Option (List ℕ)) → cond b w (cond b v f) ≡ cond b w f
last_wins true v w f = refl
last_wins false v w f = refl

twice : (m : Files) (k v w : List ℕ) → insert (insert m k v) k w ≡ insert m k w
twice m k v w = same_map nat_list_cmp_total exact_names _ _ (λ q.
    get-insert nat_list_cmp_total (insert m k v) k w q
    ∙ ap (cond (eq_by_cmp (slice_cmp nat_cmp) q k) (Some w)) (get-insert nat_list_cmp_total m k v q)
    ∙ last_wins (eq_by_cmp (slice_cmp nat_cmp) q k) (Some v) (Some w) (get m q)
    ∙ sym (get-insert nat_list_cmp_total m k w q))

put_twice : (o : Outside) (name a b : List ℕ) → with_file name b (with_file name a o) ≡ with_file name b o
put_twice o name a b = ap (λ (m : Files). record o { files = m }) (twice o.files name a b)

more_put : (o : Outside) (name a b : List ℕ) → with_more name b (with_file name a o) ≡ with_file name (a ++ b) o
more_put o name a b =
    ap (λ (f : Option (List ℕ)). with_file name (unwrap_or f [] ++ b) (with_file name a o)) (file_put o name a)
    ∙ put_twice o name a (a ++ b)

-- a piece is written behind what was written
pub written_on : (told : Option Outside) (name a b : List ℕ) → option_map (with_more name b) (option_map (with_file name a) told) ≡ option_map (with_file name (a ++ b)) told
written_on None name a b = refl
written_on (Some o) name a b = ap Some (more_put o name a b)

-- and said behind what was said
pub said_on : (told : Option Outside) (a b : List ℕ) → option_map (with_said b) (option_map (with_said a) told) ≡ option_map (with_said (a ++ b)) told
said_on None a b = refl
said_on (Some o) a b = ap (λ (s : List ℕ). Some (record o { said = s })) (append_assoc o.said a b)
