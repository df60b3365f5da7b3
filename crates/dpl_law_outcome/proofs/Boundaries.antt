-- Reading the records of the boundaries that are written.
use Rattle.std.proofs.Common.{◌≡◌, ℕ, ◌+◌, ◌<◌, Bool, true, false, cond, eqb, List, [], ◌∷◌, ◌++◌, length, Option, Some, None, Result, Ok}
use Rattle.std.proofs.Common.{Err, refl, sym, subst, ap, ◌∙◌, append_assoc, arith}
use Rattle.std.specs.List.{Contains}
use Rattle.std.specs.Int.{w16, to_be_bytes}
use Rattle.std.proofs.lemmas.List.{length-append, append-nil}
use Rattle.dpl_spec_split.specs.declared.Rect.{Rect}
use Rattle.dpl_spec_split.proofs.Ordered.{Contains-head, Contains-later}
use Rattle.dpl_spec_format.specs.Kinds as kinds
use Rattle.dpl_spec_format.specs.Faults.{Fault, unexpected}
use Rattle.dpl_spec_format.specs.Records.{Record, record_at}
use Rattle.dpl_spec_format.specs.Table.{form_of, table}
use Rattle.dpl_spec_format.specs.Tree as Tree
use Rattle.dpl_spec_format.specs.Tree.{Element, Body, is_boundary}
use Rattle.dpl_masks.specs.Bytes.{boundary_bytes, coordinate_bytes}
use Rattle.dpl_syntax.specs.Reading as reading
use Rattle.dpl_syntax.specs.Reading.{◌>>=◌, Item, must, may, Slots, body_at}
use Rattle.dpl_syntax.specs.Passing.{Passes, same, element_then, elements_first, property_first, properties_end, AreProperties, IsEnd, IsElement, AreElements, IsNextElement}
use Rattle.dpl_syntax.proofs.Ends.{passes_none, no_more, whole_end}
use Rattle.dpl_syntax.proofs.WholeElements.{element_ok}
use Rattle.dpl_syntax.proofs.ElementLists.{elements_more}
use Rattle.dpl_law_outcome.proofs.Decoding.{xy_of, layer-read}
use Rattle.dpl_law_outcome.proofs.Putting.{IsRecord, rec, put}
use Rattle.dpl_law_outcome.proofs.Layers.{Shape, body_of_shape, elements_from}

-- ---- taking a record that is there

pub takes : (bytes : List ℕ) (kind at : ℕ) (r : Record) → record_at bytes at ≡ Ok r → eqb r.kind kind ≡ true → reading.take bytes kind at ≡ Ok (r, r.next)
takes bytes kind at r e h =
    ap (λ (x : Result Record Fault). x >>= (λ q. cond (eqb q.kind kind) (Ok (q, q.next)) (Err (unexpected at)))) e
    ∙ ap (λ (b : Bool). cond b (Ok (r, r.next)) (Err (unexpected at))) h

pub leaves : (bytes : List ℕ) (kind at : ℕ) (r : Record) → record_at bytes at ≡ Ok r → eqb r.kind kind ≡ false → reading.take_if bytes kind at ≡ Ok (None, at)
leaves bytes kind at r e h =
    ap (λ (x : Result Record Fault). x >>= (λ q. cond (eqb q.kind kind) (reading.kept (Some q, q.next)) (reading.kept (None, at)))) e
    ∙ ap (λ (b : Bool). cond b (reading.kept (Some r, r.next)) (reading.kept (None, at))) h

item_left : (bytes : List ℕ) (kind at : ℕ) (r : Record) → record_at bytes at ≡ Ok r → eqb r.kind kind ≡ false → reading.item_at bytes (may kind) at ≡ Ok ((kind, None) ∷ [], at)
item_left bytes kind at r e h = ap (λ (x : Result (Option Record × ℕ) Fault). x >>= (λ o. Ok ((kind, o.0) ∷ [], o.1))) (leaves bytes kind at r e h)

item_taken : (bytes : List ℕ) (kind at : ℕ) (r : Record) → record_at bytes at ≡ Ok r → eqb r.kind kind ≡ true
    → reading.item_at bytes (must kind) at ≡ Ok ((kind, Some r) ∷ [], r.next)
item_taken bytes kind at r e h = ap (reading.one_slot bytes kind) (takes bytes kind at r e h)

item_first : (bytes : List ℕ) (i : Item) (is : List Item) (at : ℕ) (first others : Slots × ℕ) → reading.item_at bytes i at ≡ Ok first
    → reading.items_at bytes is first.1 ≡ Ok others → reading.items_at bytes (i ∷ is) at ≡ Ok (first.0 ++ others.0, others.1)
unfolding reading.items_at
item_first bytes i is at first others e f =
    ap (λ (x : Result (Slots × ℕ) Fault). x >>= (λ y. reading.items_at bytes is y.1 >>= (λ z. Ok (y.0 ++ z.0, z.1)))) e
    ∙ ap (λ (x : Result (Slots × ℕ) Fault). x >>= (λ z. Ok (first.0 ++ z.0, z.1))) f

no_items : (bytes : List ℕ) (at : ℕ) → reading.items_at bytes [] at ≡ Ok ([], at)
unfolding reading.items_at
no_items bytes at = refl

-- ---- the records of a boundary

abbrev pub w1 : List ℕ
w1 = 0 ∷ 4 ∷ 8 ∷ 0 ∷ []

abbrev w2 : ℕ → List ℕ
w2 layer = 0 ∷ 6 ∷ 13 ∷ 2 ∷ to_be_bytes w16 layer

abbrev w3 : List ℕ
w3 = 0 ∷ 6 ∷ 14 ∷ 2 ∷ 0 ∷ 0 ∷ []

abbrev w4 : Rect → List ℕ
w4 r = 0 ∷ 44 ∷ 16 ∷ 3 ∷ xy_of r

abbrev w5 : List ℕ
w5 = 0 ∷ 4 ∷ 17 ∷ 0 ∷ []

five : (layer : ℕ) (r : Rect) → boundary_bytes layer r ≡ w1 ++ (w2 layer ++ (w3 ++ (w4 r ++ w5)))
unfolding boundary_bytes coordinate_bytes
five layer r = refl

is_1 : IsRecord w1 kinds.boundary []
unfolding record_at form_of table
is_1 = refl

is_2 : (layer : ℕ) → IsRecord (w2 layer) kinds.layer (to_be_bytes w16 layer)
unfolding record_at form_of table
is_2 layer = refl

is_3 : IsRecord w3 kinds.datatype (0 ∷ 0 ∷ [])
unfolding record_at form_of table
is_3 = refl

is_4 : (r : Rect) → IsRecord (w4 r) kinds.xy (xy_of r)
unfolding record_at form_of table coordinate_bytes
is_4 r = refl

is_5 : IsRecord w5 kinds.endel []
unfolding record_at form_of table
is_5 = refl

six : (p a b c d e : List ℕ) → ((((p ++ a) ++ b) ++ c) ++ d) ++ e ≡ p ++ (a ++ (b ++ (c ++ (d ++ e))))
six p a b c d e = simp append_assoc

-- ---- reading one

module _ (out pre post : List ℕ) (s : Shape) (fits : s.layer < 65536) (is : out ≡ pre ++ (boundary_bytes s.layer s.rect ++ post)) where
  abbrev p2 : List ℕ
  p2 = pre ++ w1

  abbrev p3 : List ℕ
  p3 = p2 ++ w2 s.layer

  abbrev p4 : List ℕ
  p4 = p3 ++ w3

  abbrev p5 : List ℕ
  p5 = p4 ++ w4 s.rect

  out-1 : out ≡ pre ++ (w1 ++ (w2 s.layer ++ (w3 ++ (w4 s.rect ++ (w5 ++ post)))))
  out-1 = is ∙ ap (λ x. pre ++ (x ++ post)) (five s.layer s.rect)
      ∙ ap (λ x. pre ++ x) (append_assoc w1 (w2 s.layer ++ (w3 ++ (w4 s.rect ++ w5))) post
      ∙ ap (λ x. w1 ++ x) (append_assoc (w2 s.layer) (w3 ++ (w4 s.rect ++ w5)) post ∙ ap (λ x. w2 s.layer ++ x)
      (append_assoc w3 (w4 s.rect ++ w5) post ∙ ap (λ x. w3 ++ x) (append_assoc (w4 s.rect) w5 post))))

  out-2 : out ≡ p2 ++ (w2 s.layer ++ (w3 ++ (w4 s.rect ++ (w5 ++ post))))
  out-2 = out-1 ∙ sym (append_assoc pre w1 (w2 s.layer ++ (w3 ++ (w4 s.rect ++ (w5 ++ post)))))

  out-3 : out ≡ p3 ++ (w3 ++ (w4 s.rect ++ (w5 ++ post)))
  out-3 = out-2 ∙ sym (append_assoc p2 (w2 s.layer) (w3 ++ (w4 s.rect ++ (w5 ++ post))))

  out-4 : out ≡ p4 ++ (w4 s.rect ++ (w5 ++ post))
  out-4 = out-3 ∙ sym (append_assoc p3 w3 (w4 s.rect ++ (w5 ++ post)))

  out-5 : out ≡ p5 ++ (w5 ++ post)
  out-5 = out-4 ∙ sym (append_assoc p4 (w4 s.rect) (w5 ++ post))

  pub found-1 : record_at out (length pre) ≡ Ok (rec pre w1 kinds.boundary [])
  found-1 = put out pre w1 (w2 s.layer ++ (w3 ++ (w4 s.rect ++ (w5 ++ post)))) kinds.boundary [] out-1 is_1

  found-2 : record_at out (length p2) ≡ Ok (rec p2 (w2 s.layer) kinds.layer (to_be_bytes w16 s.layer))
  found-2 = put out p2 (w2 s.layer) (w3 ++ (w4 s.rect ++ (w5 ++ post))) kinds.layer (to_be_bytes w16 s.layer) out-2 (is_2 s.layer)

  found-3 : record_at out (length p3) ≡ Ok (rec p3 w3 kinds.datatype (0 ∷ 0 ∷ []))
  found-3 = put out p3 w3 (w4 s.rect ++ (w5 ++ post)) kinds.datatype (0 ∷ 0 ∷ []) out-3 is_3

  found-4 : record_at out (length p4) ≡ Ok (rec p4 (w4 s.rect) kinds.xy (xy_of s.rect))
  found-4 = put out p4 (w4 s.rect) (w5 ++ post) kinds.xy (xy_of s.rect) out-4 (is_4 s.rect)

  found-5 : record_at out (length p5) ≡ Ok (rec p5 w5 kinds.endel [])
  found-5 = put out p5 w5 post kinds.endel [] out-5 is_5

  abbrev slots : Slots
  slots = (kinds.elflags, None) ∷ (kinds.plex, None) ∷ (kinds.layer, Some (rec p2 (w2 s.layer) kinds.layer (to_be_bytes w16 s.layer)))
      ∷ (kinds.datatype, Some (rec p3 w3 kinds.datatype (0 ∷ 0 ∷ []))) ∷ (kinds.xy, Some (rec p4 (w4 s.rect) kinds.xy (xy_of s.rect))) ∷ []

  items-read : reading.items_at out (reading.items_of kinds.boundary) (length p2) ≡ Ok (slots, length p5)
  items-read =
      item_first out (may kinds.elflags) (may kinds.plex ∷ must kinds.layer ∷ must kinds.datatype ∷ must kinds.xy ∷ []) (length p2) ((kinds.elflags, None) ∷ [], length p2) _
      (item_left out kinds.elflags (length p2) _ found-2 refl)
      (item_first out (may kinds.plex) (must kinds.layer ∷ must kinds.datatype ∷ must kinds.xy ∷ []) (length p2) ((kinds.plex, None) ∷ [], length p2) _
      (item_left out kinds.plex (length p2) _ found-2 refl)
      (item_first out (must kinds.layer) (must kinds.datatype ∷ must kinds.xy ∷ []) (length p2) _ _
      (item_taken out kinds.layer (length p2) _ found-2 refl)
      (item_first out (must kinds.datatype) (must kinds.xy ∷ []) (length p3) _ _
      (item_taken out kinds.datatype (length p3) _ found-3 refl)
      (item_first out (must kinds.xy) [] (length p4) _ _
      (item_taken out kinds.xy (length p4) _ found-4 refl)
      (no_items out (length p5))))))

  body-read : body_at out kinds.boundary (length p2) ≡ Ok (body_of_shape s, length p5)
  body-read =
      ap (λ (x : Result (Slots × ℕ) Fault). x >>= (λ y. Ok (Tree.body_of kinds.boundary (reading.pick y.0), y.1))) items-read
      ∙ ap (λ (n : ℕ). Ok (is_boundary (record { layer = n; datatype = 0; xy = xy_of s.rect }), length p5)) (layer-read s.layer fits)

  end-read : Passes out properties_end same IsEnd (length p5) (length (p5 ++ w5))
  end-read =
      whole_end out (length p5) (length p5) (rec p5 w5 kinds.endel [], length (p5 ++ w5))
      (no_more out (length p5) (length p5) (length p5) (passes_none out property_first AreProperties (length p5) tt)
      (leaves out kinds.propattr (length p5) (rec p5 w5 kinds.endel []) found-5 refl))
      (takes out kinds.endel (length p5) (rec p5 w5 kinds.endel []) found-5 refl)

  one-read : Passes out element_then same (IsElement (record { at = length pre; body = body_of_shape s })) (length pre) (length (p5 ++ w5))
  one-read = element_ok out (length pre) (rec pre w1 kinds.boundary []) found-1 refl (body_of_shape s, length p5) (length (p5 ++ w5)) body-read end-read

  next-is : IsNextElement out (length pre) (rec pre w1 kinds.boundary [])
  next-is =
      let rest = w2 s.layer ++ (w3 ++ (w4 s.rect ++ (w5 ++ post))) in
      let size = length-append pre w1 in
      let all : length out ≡ length p2 + length rest = ap length out-2 ∙ length-append p2 rest in
      record { found = found-1; after = omega (arith, size); within = omega (arith, all); begins = refl }

  behind : p5 ++ w5 ≡ pre ++ boundary_bytes s.layer s.rect
  behind = six pre w1 (w2 s.layer) w3 (w4 s.rect) w5 ∙ ap (λ x. pre ++ x) (sym (five s.layer s.rect))

  pub read-one : (from : ℕ) (es : List Element) → Passes out elements_first elements_first (AreElements es) from (length pre)
      → Passes out elements_first elements_first (AreElements (es ++ record { at = length pre; body = body_of_shape s } ∷ [])) from (length (pre ++ boundary_bytes s.layer s.rect))
  read-one from es so_far =
      subst (λ x. Passes out elements_first elements_first (AreElements (es ++ record { at = length pre; body = body_of_shape s } ∷ [])) from (length x)) behind
      (elements_more out from (length pre) (length (p5 ++ w5)) es (record { at = length pre; body = body_of_shape s }) (rec pre w1 kinds.boundary []) so_far next-is one-read)

abbrev pub shapes_bytes : List Shape → List ℕ
shapes_bytes [] = []
shapes_bytes (s ∷ ss) = boundary_bytes s.layer s.rect ++ shapes_bytes ss

size-of : (layer : ℕ) (r : Rect) → length (boundary_bytes layer r) ≡ 64
unfolding boundary_bytes coordinate_bytes
size-of layer r = refl

-- the elements of all shapes
pub read-shapes : (out pre post : List ℕ) (ss : List Shape) (from : ℕ) (es : List Element)
    → ((s : Shape) → Contains ss s → s.layer < 65536) → out ≡ pre ++ (shapes_bytes ss ++ post)
    → Passes out elements_first elements_first (AreElements es) from (length pre)
    → Passes out elements_first elements_first (AreElements (es ++ elements_from (length pre) ss)) from (length (pre ++ shapes_bytes ss))
read-shapes out pre post [] from es fits is so_far =
    subst (λ x. Passes out elements_first elements_first (AreElements x) from (length (pre ++ []))) (sym (append-nil es))
    (subst (λ x. Passes out elements_first elements_first (AreElements es) from (length x)) (sym (append-nil pre)) so_far)
read-shapes out pre post (s ∷ ss) from es fits is so_far =
    let box : List ℕ = boundary_bytes s.layer s.rect in
    let e : Element = record { at = length pre; body = body_of_shape s } in
    let here : out ≡ pre ++ (box ++ (shapes_bytes ss ++ post)) = is ∙ ap (λ x. pre ++ x) (append_assoc box (shapes_bytes ss) post) in
    let one = read-one out pre (shapes_bytes ss ++ post) s (fits s (Contains-head s ss)) here from es so_far in
    let next : out ≡ (pre ++ box) ++ (shapes_bytes ss ++ post) = here ∙ sym (append_assoc pre box (shapes_bytes ss ++ post)) in
    let more = read-shapes out (pre ++ box) post ss from (es ++ e ∷ []) (λ t t_in. fits t (Contains-later s t ss t_in)) next one in
    let at : length (pre ++ box) ≡ length pre + 64 = length-append pre box ∙ ap (λ n. length pre + n) (size-of s.layer s.rect) in
    let list : (es ++ e ∷ []) ++ elements_from (length (pre ++ box)) ss ≡ es ++ e ∷ elements_from (length pre + 64) ss = append_assoc es
    (e ∷ []) (elements_from (length (pre ++ box)) ss) ∙ ap (λ n. es ++ e ∷ elements_from n ss) at in
    let end : (pre ++ box) ++ shapes_bytes ss ≡ pre ++ (box ++ shapes_bytes ss) = append_assoc pre box (shapes_bytes ss) in
    subst (λ x. Passes out elements_first elements_first (AreElements x) from (length (pre ++ (box ++ shapes_bytes ss)))) list
    (subst (λ x. Passes out elements_first elements_first (AreElements ((es ++ e ∷ []) ++ elements_from (length (pre ++ box)) ss)) from (length x)) end more)
