-- After a batch the files of a layer are as `split` of that layer alone leaves them.
use Rattle.std.proofs.Common.{◌≡◌, ◌≢◌, ◌⊎◌, ◌≤◌, ◌+◌, ◌++◌, ◌==◌, ℕ, true, false, cond, inl, inr, List, [], ◌∷◌, length, get_or, count_by, Option, Some}
use Rattle.std.proofs.Common.{refl, sym, ap, ◌∙◌, subst, arith, codes}
use Rattle.std.specs.List.{All, AllZip, Contains, flat_map}
use Rattle.std.specs.Fmt.{decimal}
use Rattle.std.specs.Str.Parse.{digits_value}
use Rattle.std.specs.Ordering.{nat_cmp, eq_by_cmp}
use Rattle.std.specs.Cmp.Lexicographic.{slice_cmp, nat_list_cmp_total}
use Rattle.std.specs.FinMap as map
use Rattle.std.proofs.lemmas.Bool.{eqb-true}
use Rattle.std.proofs.lemmas.Bool.Decides.{eqb_tells}
use Rattle.std.proofs.lemmas.Fmt.{decimal_is_IsNumeral}
use Rattle.std.proofs.lemmas.List.{append_cancel_left, append_cancel_right, get_or-append-add, length-append}
use Rattle.std.proofs.lemmas.List.Elements.{All-append, All-cons, All-contains, All-head, All-nil, All-tail, All-weaker}
use Rattle.std.proofs.lemmas.List.Sums.{AllPass-from_list_all, sum_by-cons}
use Rattle.clap.specs.Walk.{Text}
use Rattle.clap.proofs.WalkLemmas.{both}
use Rattle.dpl_host.specs.Outside.{Outside, file_of, with_file}
use Rattle.dpl_words.specs.Meaning.{BatchValues, certificate_name, is_batch_apart, mask_name}
use Rattle.dpl_cert.specs.declared.cert.Cert.TheVariants.{Conflict, Fault, Masks}
use Rattle.dpl_masks.specs.Bytes.{file_bytes}
use Rattle.dpl_answer.specs.Flat.{Clashes, Paints}
use Rattle.dpl_run.specs.Batch.{IsBatchOf, split_of}
use Rattle.dpl_run.specs.Outcome.{Outcome, carried_out, written}
use Rattle.dpl_decide.specs.Deciding.{Decides, Decision, Refuses}
use Rattle.dpl_run.specs.Split.{IsSplit, IsSplitOf, certified, plan_of}
use Rattle.dpl_run.proofs.Checking.{put_other}
use Rattle.dpl_law_outcome.specs.Alone.{EachFileIsAlone, IsFileOf}
use Rattle.dpl_law_outcome.proofs.Outcomes.{split-same}

-- ---- names

decimal-one : (m n : ℕ) → m ≤ 65535 → n ≤ 65535 → decimal m ≡ decimal n → m ≡ n
decimal-one m n a b e = sym ((decimal_is_IsNumeral m (omega (arith, a))).1) ∙ (ap (digits_value 10) e ∙ (decimal_is_IsNumeral n (omega (arith, b))).1)

ends-apart : (xs ys : List ℕ) → xs ++ codes ".gds" ≡ ys ++ codes ".cert" → ⊥
ends-apart xs ys e =
    let lengths : length xs + 4 ≡ length ys + 5 = sym (length-append xs (codes ".gds")) ∙ (ap length e ∙ length-append ys (codes ".cert")) in
    let place : length xs + 3 ≡ length ys + 4 = omega (arith, lengths) in
    let last : get_or (xs ++ codes ".gds") (length xs + 3) 0 ≡ 115 = get_or-append-add xs (codes ".gds") 3 0 in
    let other : get_or (ys ++ codes ".cert") (length ys + 4) 0 ≡ 116 = get_or-append-add ys (codes ".cert") 4 0 in
    let same : 115 ≡ 116 = sym last ∙ (ap (λ k. get_or k (length xs + 3) 0) e ∙ (ap (λ k. get_or (ys ++ codes ".cert") k 0) place ∙ other)) in
    absurd (omega (arith, same))

-- a name is that of a file of one layer
name-one : (prefix name : Text) (l m : ℕ) → l ≤ 65535 → m ≤ 65535 → IsFileOf prefix l name → IsFileOf prefix m name → l ≡ m
name-one prefix name l m small low (inl a) (inl b) =
    decimal-one l m small low (append_cancel_right (decimal l) (decimal m) (codes ".gds")
    (append_cancel_left (codes ".") _ _ (append_cancel_left prefix _ _ (sym a ∙ b))))
name-one prefix name l m small low (inl a) (inr b) = absurd (ends-apart (decimal l) (decimal m) (append_cancel_left (codes ".") _ _ (append_cancel_left prefix _ _ (sym a ∙ b))))
name-one prefix name l m small low (inr a) (inl b) = absurd (ends-apart (decimal m) (decimal l) (append_cancel_left (codes ".") _ _ (append_cancel_left prefix _ _ (sym b ∙ a))))
name-one prefix name l m small low (inr a) (inr b) =
    decimal-one l m small low (append_cancel_right (decimal l) (decimal m) (codes ".cert")
    (append_cancel_left (codes ".") _ _ (append_cancel_left prefix _ _ (sym a ∙ b))))

-- ---- writes

-- what is written under other names leaves a file as it was
others-kept : (ws : List (Text × List ℕ)) (o : Outside) (name : Text) → All (λ (w : Text × List ℕ). w.0 ≢ name) ws → file_of (written ws o) name ≡ file_of o name
others-kept [] o name h = refl
others-kept (w ∷ ws) o name h =
    others-kept ws (with_file w.0 w.1 o) name (All-tail (λ (z : Text × List ℕ). z.0 ≢ name) w ws h)
    ∙ put_other o w.0 w.1 name (λ e. All-head (λ (z : Text × List ℕ). z.0 ≢ name) w ws h (sym e))

both-written : (ws zs : List (Text × List ℕ)) (o : Outside) → written (ws ++ zs) o ≡ written zs (written ws o)
both-written [] zs o = refl
both-written (w ∷ ws) zs o = both-written ws zs (with_file w.0 w.1 o)

-- a file that is the same before is the same behind the same writes
alike-written : (ws : List (Text × List ℕ)) (o p : Outside) (name : Text) → file_of o name ≡ file_of p name → file_of (written ws o) name ≡ file_of (written ws p) name
alike-written [] o p name same = same
alike-written (w ∷ ws) o p name same =
    alike-written ws (with_file w.0 w.1 o) (with_file w.0 w.1 p) name
    (map.get-insert nat_list_cmp_total o.files w.0 w.1 name ∙ (ap (λ (f : Option (List ℕ)). cond (eq_by_cmp (slice_cmp nat_cmp) name w.0) (Some w.1) f) same
    ∙ sym (map.get-insert nat_list_cmp_total p.files w.0 w.1 name)))

-- ---- the files of a layer

abbrev AreOf : BatchValues → ℕ → List (Text × List ℕ) → Type 0
AreOf v l ws = All (λ (w : Text × List ℕ). IsFileOf v.prefix l w.0) ws

named-more : (v : BatchValues) (l : ℕ) (w : Text × List ℕ) (ws : List (Text × List ℕ)) → IsFileOf v.prefix l w.0 → AreOf v l ws → AreOf v l (w ∷ ws)
named-more v l w ws one rest = All-cons (λ (z : Text × List ℕ). IsFileOf v.prefix l z.0) w ws one rest

named-none : (v : BatchValues) (l : ℕ) → AreOf v l []
named-none v l = All-nil (λ (w : Text × List ℕ). IsFileOf v.prefix l w.0)

plan-named : (v : BatchValues) (l : ℕ) (d : Decision) → AreOf v l (plan_of (split_of v l) d).writes
plan-named v l (Refuses m i) = named-more v l (certificate_name v.prefix l, certified (Fault m i)) [] (inr refl) (named-none v l)
plan-named v l (Decides p (Paints q)) =
    let cert : Text × List ℕ = (certificate_name v.prefix l, certified (Masks q.head q.pieces q.stitches q.gains)) in
    named-more v l (mask_name v.prefix l, file_bytes p v.a v.b q.a q.b) (cert ∷ []) (inl refl) (named-more v l cert [] (inr refl) (named-none v l))
plan-named v l (Decides p (Clashes q)) = named-more v l (certificate_name v.prefix l, certified (Conflict q.head q.cycle q.near)) [] (inr refl) (named-none v l)

module _ (v : BatchValues) (bytes : List ℕ) (layer : ℕ) (name : Text) (low : layer ≤ 65535) (of_layer : IsFileOf v.prefix layer name) where
  -- another layer's files have other names
  other-named : (l : ℕ) (x : Outcome) → l ≤ 65535 → l ≢ layer → IsSplit (split_of v l) bytes x → All (λ (w : Text × List ℕ). w.0 ≢ name) x.writes
  other-named l x small apart (d, is_d, is) =
      let named : All (λ (w : Text × List ℕ). IsFileOf v.prefix l w.0) x.writes =
      subst (λ (k : Outcome). All (λ (w : Text × List ℕ). IsFileOf v.prefix l w.0) k.writes) (sym is) (plan-named v l d) in
      All-weaker (λ (w : Text × List ℕ). IsFileOf v.prefix l w.0) (λ (w : Text × List ℕ). w.0 ≢ name)
      (λ w of e. apart (name-one v.prefix name l layer small low (subst (λ k. IsFileOf v.prefix l k) e of) of_layer)) x.writes named

  abbrev times : List ℕ → ℕ
  times ls = count_by (λ m. m == layer) ls

  once-more : (l : ℕ) (ls : List ℕ) → (l == layer) ≡ true → times (l ∷ ls) ≡ 1 + times ls
  once-more l ls e = sum_by-cons (λ m. cond (m == layer) 1 0) l ls ∙ ap (λ b. cond b 1 0 + count_by (λ m. m == layer) ls) e

  no-more : (l : ℕ) (ls : List ℕ) → (l == layer) ≡ false → times (l ∷ ls) ≡ 0 + times ls
  no-more l ls e = sum_by-cons (λ m. cond (m == layer) 1 0) l ls ∙ ap (λ b. cond b 1 0 + count_by (λ m. m == layer) ls) e

  -- where the layer isn't among them no file of it is written
  none-named : (ls : List ℕ) (xs : List Outcome) → AllZip (λ l x. IsSplit (split_of v l) bytes x) ls xs → All (λ n. n ≤ 65535) ls → times ls ≡ 0
      → All (λ (w : Text × List ℕ). w.0 ≢ name) (flat_map (λ (x : Outcome). x.writes) xs)
  none-named [] [] h small none = All-nil (λ (w : Text × List ℕ). w.0 ≢ name)
  none-named [] (x ∷ xs) h small none = absurd h
  none-named (l ∷ ls) [] h small none = absurd h
  none-named (l ∷ ls) (x ∷ xs) h small none =
      go (eqb_tells l layer) (none-named ls xs h.1 (All-tail (λ n. n ≤ 65535) l ls small))
    where
      go : (((l == layer) ≡ true) × (l ≡ layer)) ⊎ (((l == layer) ≡ false) × (l ≢ layer))
          → (times ls ≡ 0 → All (λ (w : Text × List ℕ). w.0 ≢ name) (flat_map (λ (y : Outcome). y.writes) xs))
          → All (λ (w : Text × List ℕ). w.0 ≢ name) (flat_map (λ (y : Outcome). y.writes) (x ∷ xs))
      go (inl (e, is)) rest = absurd (omega (arith, none, once-more l ls e))
      go (inr (e, apart)) rest =
          All-append (λ (w : Text × List ℕ). w.0 ≢ name) x.writes (flat_map (λ (y : Outcome). y.writes) xs)
          (other-named l x (All-head (λ n. n ≤ 65535) l ls small) apart h.0)
          (rest (omega (arith, none, no-more l ls e)))

  module _ (y : Outcome) (alone : IsSplit (split_of v layer) bytes y) where
    layer-left : (ls : List ℕ) (xs : List Outcome) (o : Outside) → AllZip (λ l x. IsSplit (split_of v l) bytes x) ls xs → All (λ n. n ≤ 65535) ls → times ls ≡ 1
        → file_of (written (flat_map (λ (x : Outcome). x.writes) xs) o) name ≡ file_of (written y.writes o) name
    layer-left [] [] o h small once = absurd (omega (arith, once))
    layer-left [] (x ∷ xs) o h small once = absurd h
    layer-left (l ∷ ls) [] o h small once = absurd h
    layer-left (l ∷ ls) (x ∷ xs) o h small once =
        go (eqb_tells l layer) (layer-left ls xs (written x.writes o) h.1 (All-tail (λ n. n ≤ 65535) l ls small))
      where
        go : (((l == layer) ≡ true) × (l ≡ layer)) ⊎ (((l == layer) ≡ false) × (l ≢ layer))
            → (times ls ≡ 1 → file_of (written (flat_map (λ (z : Outcome). z.writes) xs) (written x.writes o)) name ≡ file_of (written y.writes (written x.writes o)) name)
            → file_of (written (x.writes ++ flat_map (λ (z : Outcome). z.writes) xs) o) name ≡ file_of (written y.writes o) name
        go (inl (e, is)) rest =
            let mine : IsSplit (split_of v layer) bytes x = subst (λ k. IsSplit (split_of v k) bytes x) is h.0 in
            let same : x ≡ y = split-same (split_of v layer) v.tile v.workers bytes x y mine alone in
            ap (λ p. file_of p name) (both-written x.writes (flat_map (λ (z : Outcome). z.writes) xs) o)
            ∙ (others-kept (flat_map (λ (z : Outcome). z.writes) xs) (written x.writes o) name (none-named ls xs h.1 (All-tail (λ n. n ≤ 65535) l ls small) (omega (arith, once, once-more l ls e)))
            ∙ ap (λ (z : Outcome). file_of (written z.writes o) name) same)
        go (inr (e, apart)) rest =
            ap (λ p. file_of p name) (both-written x.writes (flat_map (λ (z : Outcome). z.writes) xs) o)
            ∙ (rest (omega (arith, once, no-more l ls e))
            ∙ alike-written y.writes (written x.writes o) o name (others-kept x.writes o name (other-named l x (All-head (λ n. n ≤ 65535) l ls small) apart h.0)))

layer-once : (v : BatchValues) (layer : ℕ) → is_batch_apart v ≡ true → Contains v.layers layer → count_by (λ m. m == layer) v.layers ≡ 1
layer-once v layer apart within =
    let single = (both _ _ (both _ _ (both _ _ apart).1).1).0 in
    eqb-true _ _ (All-contains (λ n. (count_by (λ m. m == n) v.layers == 1) ≡ true) v.layers layer (AllPass-from_list_all (λ n. count_by (λ m. m == n) v.layers == 1) v.layers single) within)

of-batch : (v : BatchValues) (o : Outside) (bytes : List ℕ) (x y : Outcome) (layer : ℕ) (name : Text) → All (λ n. n ≤ 65535) v.layers → is_batch_apart v ≡ true
    → Contains v.layers layer → IsFileOf v.prefix layer name → IsBatchOf v (Some bytes) x → IsSplitOf (split_of v layer) (Some bytes) y
    → file_of (carried_out x o) name ≡ file_of (carried_out y o) name
of-batch v o bytes x y layer name small apart within of_layer (each, are, is) alone =
    ap (λ (z : Outcome). file_of (carried_out z o) name) is
    ∙ layer-left v bytes layer name (All-contains (λ n. n ≤ 65535) v.layers layer small within) of_layer y alone v.layers each o are small (layer-once v layer apart within)

pub left : EachFileIsAlone
left v o bytes x y layer name range apart is within of_layer x_plan y_plan =
    of-batch v o bytes x y layer name range.numbers apart within of_layer (subst (λ f. IsBatchOf v f x) is x_plan) (subst (λ f. IsSplitOf (split_of v layer) f y) is y_plan)
