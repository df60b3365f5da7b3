-- Items that follow one another, each read from where the one before it ended.
use Rattle.std.proofs.Common.{◌≡◌, ℕ, List, [], ◌∷◌, ◌++◌, Option, Some, None, Result, Ok, Err, refl, sym, ap, ◌∙◌, append_assoc}
use Rattle.std.specs.Borrow.{Bor}
use Rattle.std.specs.Option.{option_map}
use Rattle.dpl_spec_format.specs.Kinds as kinds
use Rattle.dpl_spec_format.specs.Faults.{Fault}
use Rattle.dpl_spec_format.specs.Fields.{u16_at, real_at}
use Rattle.dpl_spec_format.specs.Records.{Record}
use Rattle.dpl_spec_format.specs.Tree.{body_of}
use Rattle.dpl_syntax.specs.declared.reader.Reader.{Reader}
use Rattle.dpl_syntax.specs.Reading.{◌>>=◌, Slots, Item, must, may, named, points, take, take_if, take_name, take_points, take_transformed, one_slot, or_else, data_in, trans_slots, IsTransformed}
use Rattle.dpl_syntax.specs.Reading.{item_at, items_at, own_items_of, body_behind_flags, pick}

-- these items are at a place, and this is what they fill and where they end
abbrev pub Fills : List ℕ → List Item → ℕ → Slots → ℕ → Type 0
Fills bytes is at slots end = items_at bytes is at ≡ Ok (slots, end)

-- a fault is met among them
abbrev pub Misses : List ℕ → List Item → ℕ → Fault → Type 0
Misses bytes is at f = items_at bytes is at ≡ Err f

-- two readers that read the same bytes
pub same_bytes : (a b : Reader) → a.bytes ≡ b.bytes → a.bytes.now ≡ b.bytes.now
same_bytes a b e = rw e refl

-- what is read in the data of a record that may be missing is what is read in its slot
pub in_slot : {N : Type 0} (view : List ℕ → N) (found : Option (Bor (List ℕ))) (from : Option Record) → option_map (λ (d : Bor (List ℕ)). d.now) found ≡ option_map data_in from
    → option_map (λ (d : Bor (List ℕ)). view d.now) found ≡ option_map (λ (r : Record). view r.body) (or_else from None)
in_slot view None None e = refl
in_slot view None (Some r) e = absurd cc
in_slot view (Some d) None e = absurd cc
in_slot view (Some d) (Some r) e = (let same : d.now ≡ r.body = cc in ap (λ (x : List ℕ). Some (view x)) same)

module _ (bytes : List ℕ) where
  pub none_then : (at : ℕ) → Fills bytes [] at [] at
  unfolding items_at
  none_then at = refl

  pub item_then : (i : Item) (is : List Item) (at next end : ℕ) (first others : Slots) (b : List ℕ) → b ≡ bytes → item_at b i at ≡ Ok (first, next)
      → Fills bytes is next others end → Fills bytes (i ∷ is) at (first ++ others) end
  unfolding items_at
  item_then i is at next end first others b same e f =
      ap (λ (x : List ℕ). item_at x i at >>= λ y. items_at bytes is y.1 >>= λ z. Ok (y.0 ++ z.0, z.1)) (sym same)
      ∙ ap (λ (x : Result (Slots × ℕ) Fault). x >>= λ y. items_at bytes is y.1 >>= λ z. Ok (y.0 ++ z.0, z.1)) e
      ∙ ap (λ (x : Result (Slots × ℕ) Fault). x >>= λ z. Ok (first ++ z.0, z.1)) f

  pub item_fails : (i : Item) (is : List Item) (at : ℕ) (f : Fault) (b : List ℕ) → b ≡ bytes → item_at b i at ≡ Err f → Misses bytes (i ∷ is) at f
  unfolding items_at
  item_fails i is at f b same e =
      ap (λ (x : List ℕ). item_at x i at >>= λ y. items_at bytes is y.1 >>= λ z. Ok (y.0 ++ z.0, z.1)) (sym same)
      ∙ ap (λ (x : Result (Slots × ℕ) Fault). x >>= λ y. items_at bytes is y.1 >>= λ z. Ok (y.0 ++ z.0, z.1)) e

  pub fails_behind : (i : Item) (is : List Item) (at next : ℕ) (first : Slots) (f : Fault) (b : List ℕ) → b ≡ bytes → item_at b i at ≡ Ok (first, next)
      → Misses bytes is next f → Misses bytes (i ∷ is) at f
  unfolding items_at
  fails_behind i is at next first f b same e h =
      ap (λ (x : List ℕ). item_at x i at >>= λ y. items_at bytes is y.1 >>= λ z. Ok (y.0 ++ z.0, z.1)) (sym same)
      ∙ ap (λ (x : Result (Slots × ℕ) Fault). x >>= λ y. items_at bytes is y.1 >>= λ z. Ok (y.0 ++ z.0, z.1)) e
      ∙ ap (λ (x : Result (Slots × ℕ) Fault). x >>= λ z. Ok (first ++ z.0, z.1)) h

  again : (r : Result (Slots × ℕ) Fault) → (r >>= λ z. Ok (z.0, z.1)) ≡ r
  again (Ok z) = refl
  again (Err f) = refl

  module _ (js : List Item) where
    abbrev with_others : Slots × ℕ → Result (Slots × ℕ) Fault
    with_others y = items_at bytes js y.1 >>= λ z. Ok (y.0 ++ z.0, z.1)

    abbrev behind : Slots → Slots × ℕ → Result (Slots × ℕ) Fault
    behind first z = Ok (first ++ z.0, z.1)

    regrouped : (first second : Slots) (r : Result (Slots × ℕ) Fault)
        → ((r >>= λ z. behind second z) >>= λ z. behind first z) ≡ (r >>= λ z. behind (first ++ second) z)
    regrouped first second (Ok z) = ap (λ (x : Slots). Ok (x, z.1)) (sym (append_assoc first second z.0))
    regrouped first second (Err f) = refl

    turned : (first : Slots) (r : Result (Slots × ℕ) Fault) → ((r >>= with_others) >>= λ z. behind first z) ≡ ((r >>= λ z. behind first z) >>= with_others)
    turned first (Ok y) = regrouped first y.0 (items_at bytes js y.1)
    turned first (Err f) = refl

    one_step : (is : List Item) → ((at : ℕ) → items_at bytes (is ++ js) at ≡ (items_at bytes is at >>= with_others)) → (r : Result (Slots × ℕ) Fault)
        → (r >>= λ y. items_at bytes (is ++ js) y.1 >>= λ z. behind y.0 z) ≡ ((r >>= λ y. items_at bytes is y.1 >>= λ z. behind y.0 z) >>= with_others)
    one_step is rest (Ok y) = ap (λ (x : Result (Slots × ℕ) Fault). x >>= λ z. behind y.0 z) (rest y.1) ∙ turned y.0 (items_at bytes is y.1)
    one_step is rest (Err f) = refl

    -- items behind others are read from where those end
    items_append : (is : List Item) (at : ℕ) → items_at bytes (is ++ js) at ≡ (items_at bytes is at >>= with_others)
    unfolding items_at
    items_append [] at = sym (again (items_at bytes js at))
    items_append (i ∷ is) at = one_step is (items_append is) (item_at bytes i at)

    pub items_then : (is : List Item) (at next end : ℕ) (first others : Slots) (b : List ℕ) → b ≡ bytes → items_at b is at ≡ Ok (first, next)
        → Fills bytes js next others end → Fills bytes (is ++ js) at (first ++ others) end
    items_then is at next end first others b same e f =
        items_append is at ∙ ap (λ (x : Result (Slots × ℕ) Fault). x >>= with_others) (ap (λ (x : List ℕ). items_at x is at) (sym same) ∙ e)
        ∙ ap (λ (x : Result (Slots × ℕ) Fault). x >>= λ z. behind first z) f

    pub items_fail : (is : List Item) (at : ℕ) (f : Fault) (b : List ℕ) → b ≡ bytes → items_at b is at ≡ Err f → Misses bytes (is ++ js) at f
    items_fail is at f b same e = items_append is at ∙ ap (λ (x : Result (Slots × ℕ) Fault). x >>= with_others) (ap (λ (x : List ℕ). items_at x is at) (sym same) ∙ e)

    pub fails_after : (is : List Item) (at next : ℕ) (first : Slots) (f : Fault) (b : List ℕ) → b ≡ bytes → items_at b is at ≡ Ok (first, next)
        → Misses bytes js next f → Misses bytes (is ++ js) at f
    fails_after is at next first f b same e h =
        items_append is at ∙ ap (λ (x : Result (Slots × ℕ) Fault). x >>= with_others) (ap (λ (x : List ℕ). items_at x is at) (sym same) ∙ e)
        ∙ ap (λ (x : Result (Slots × ℕ) Fault). x >>= λ z. behind first z) h

  -- ---- a record

  pub must_is : (kind at next : ℕ) (r : Record) → take bytes kind at ≡ Ok (r, next) → item_at bytes (must kind) at ≡ Ok ((kind, Some r) ∷ [], next)
  must_is kind at next r e = ap (one_slot bytes kind) e

  pub must_fails : (kind at : ℕ) (f : Fault) → take bytes kind at ≡ Err f → item_at bytes (must kind) at ≡ Err f
  must_fails kind at f e = ap (one_slot bytes kind) e

  pub may_is : (kind at next : ℕ) (o : Option Record) → take_if bytes kind at ≡ Ok (o, next) → item_at bytes (may kind) at ≡ Ok ((kind, o) ∷ [], next)
  may_is kind at next o e = ap (λ (x : Result (Option Record × ℕ) Fault). x >>= λ y. Ok ((kind, y.0) ∷ [], y.1)) e

  pub may_fails : (kind at : ℕ) (f : Fault) → take_if bytes kind at ≡ Err f → item_at bytes (may kind) at ≡ Err f
  may_fails kind at f e = ap (λ (x : Result (Option Record × ℕ) Fault). x >>= λ y. Ok ((kind, y.0) ∷ [], y.1)) e

  pub named_is : (at next : ℕ) (r : Record) → take_name bytes at ≡ Ok (r, next) → item_at bytes named at ≡ Ok ((kinds.sname, Some r) ∷ [], next)
  named_is at next r e = ap (one_slot bytes kinds.sname) e

  pub named_fails : (at : ℕ) (f : Fault) → take_name bytes at ≡ Err f → item_at bytes named at ≡ Err f
  named_fails at f e = ap (one_slot bytes kinds.sname) e

  pub points_are : (len at next : ℕ) (r : Record) → take_points bytes len at ≡ Ok (r, next) → item_at bytes (points len) at ≡ Ok ((kinds.xy, Some r) ∷ [], next)
  points_are len at next r e = ap (one_slot bytes kinds.xy) e

  pub points_fail : (len at : ℕ) (f : Fault) → take_points bytes len at ≡ Err f → item_at bytes (points len) at ≡ Err f
  points_fail len at f e = ap (one_slot bytes kinds.xy) e

  -- ---- a body

  pub body_then : (kind at end : ℕ) (slots : Slots) → Fills bytes (own_items_of kind) at slots end
      → body_behind_flags bytes kind at ≡ Ok (body_of kind (pick slots), end)
  body_then kind at end slots f =
      ap (λ (x : Result (Slots × ℕ) Fault). x >>= λ y. Ok (body_of kind (pick y.0), y.1)) f

  pub body_fails : (kind at : ℕ) (f : Fault) → Misses bytes (own_items_of kind) at f → body_behind_flags bytes kind at ≡ Err f
  body_fails kind at f h = ap (λ (x : Result (Slots × ℕ) Fault). x >>= λ y. Ok (body_of kind (pick y.0), y.1)) h

  -- ---- a transformation

  pub transformed_is : (at n1 n2 n3 number : ℕ) (reals : Option (List ℕ) × Option (List ℕ)) (strans : List ℕ) (s m g : Option Record)
      → take_if bytes kinds.strans at ≡ Ok (s, n1) → Some strans ≡ option_map data_in s → number ≡ u16_at strans 0
      → take_if bytes kinds.mag n1 ≡ Ok (m, n2) → reals.0 ≡ option_map (λ (r : Record). real_at r.body 0) (or_else m None)
      → take_if bytes kinds.angle n2 ≡ Ok (g, n3) → reals.1 ≡ option_map (λ (r : Record). real_at r.body 0) (or_else g None)
      → IsTransformed bytes at (Some (record { strans = number; mag = reals.0; angle = reals.1 })) n3
  transformed_is at n1 n2 n3 number reals strans None m g s_is same number_is m_is mag_is g_is angle_is = absurd cc
  transformed_is at n1 n2 n3 number reals strans (Some r) m g s_is same number_is m_is mag_is g_is angle_is =
      let body : strans ≡ r.body = cc in
      record {
        strans = Some r;
        mag = m;
        angle = g;
        fills = ap (λ (x : Result (Option Record × ℕ) Fault). x >>= take_transformed bytes) s_is
            ∙ ap (λ (x : Result (Option Record × ℕ) Fault). x >>= λ y. take_if bytes kinds.angle y.1 >>= λ z. Ok (trans_slots (Some r) y.0 z.0, z.1)) m_is
            ∙ ap (λ (x : Result (Option Record × ℕ) Fault). x >>= λ z. Ok (trans_slots (Some r) m z.0, z.1)) g_is;
        is = rw (number_is, mag_is, angle_is, body) refl;
      }
