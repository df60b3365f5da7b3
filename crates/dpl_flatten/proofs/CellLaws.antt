-- What the elements that were gone through draw and place.
use Rattle.std.proofs.Common.{◌≡◌, ◌≢◌, ℕ, ◌+◌, ◌^◌, ◌<◌, ◌≤◌, ◌⊎◌, inl, inr, ⊎_elim, Bool, true, false, List, [], ◌∷◌, ◌++◌, Some, None}
use Rattle.std.proofs.Common.{map, length, get_or, take, refl, sym, ap, ◌∙◌, arith, length-append}
use Rattle.std.proofs.lemmas.Bool.{cases_lt, cases_order}
use Rattle.std.proofs.lemmas.List.{take_all, get_or_append_left}
use Rattle.std.proofs.Math.Seq.{get_or-append_seam}
use Rattle.std.proofs.lemmas.Option.{slice_get_past, slice_get-get_or}
use Rattle.std.proofs.lemmas.List.Elements.{Contains-append_left, Contains-append_right, Contains-append_cases, Contains-push, Contains-push_cases, All-contains, Contains-get_or}
use Rattle.std.specs.List.{Contains}
use Rattle.std.specs.Prelude.{slice_get}
use Rattle.dpl_spec_split.specs.declared.Pt.{Pt}
use Rattle.dpl_spec_split.specs.Loops.{IsRectilinear, ArePointsWithin}
use Rattle.dpl_spec_split.proofs.Ordered.{Contains-nil}
use Rattle.dpl_spec_format.specs.Tree.{Library, Element, elements_at}
use Rattle.dpl_syntax.specs.declared.element.Element.{Element as Found}
use Rattle.dpl_syntax.specs.Elements.{element_seen}
use Rattle.dpl_spec_layout.specs.declared.Layer.{Layer}
use Rattle.dpl_spec_layout.specs.declared.ElementFault.{ElementFault}
use Rattle.dpl_spec_layout.specs.Elements.{loops_of, IsRefusedFor}
use Rattle.dpl_spec_layout.specs.Structures.{target_of}
use Rattle.dpl_links.specs.Graph.{IsMarked}
use Rattle.dpl_links.proofs.SpreadLaws.{marked_below}
use Rattle.dpl_links.proofs.TakeLaws.{Contains-take_more, Contains-take_keeps, Contains-take_last}
use Rattle.dpl_walk.specs.declared.cells.Outline.{Outline}
use Rattle.dpl_walk.specs.declared.cells.Copies.{Copies}
use Rattle.dpl_walk.specs.declared.cells.Cell.{Cell}
use Rattle.dpl_flatten.specs.Totals.{IsBare}
use Rattle.dpl_flatten.specs.Cells.{AreCopies, IsDrawn, IsPlaced, IsCell, IsCopied, IsNoted, AreCountedTargets, AreTaken, AreCells}
use Rattle.dpl_walk.specs.Cells.{IsReady}
use Rattle.dpl_walk.specs.Walk.{outlines_at, copies_at, outlines_or_none, copies_or_none}
use Rattle.dpl_walk.proofs.ListLaws.{Contains-map, Contains-map_cases}
use Rattle.dpl_flatten.proofs.LeastLaws.{seen_at, seen_length}

pub cell_none : (lib : Library) (layer : Layer) → IsCell lib layer [] [] []
cell_none lib layer = record {
  drawn = λ o c. absurd (Contains-nil o c);
  outlined = λ e qs c q. absurd (Contains-nil e c);
  straight = λ o c. absurd (Contains-nil o c);
  within = λ o c. absurd (Contains-nil o c);
  placed = λ x c. absurd (Contains-nil x c);
  ready = λ x c. absurd (Contains-nil x c);
  full = λ x c. absurd (Contains-nil x c);
  copied = λ e j c t. absurd (Contains-nil e c);
}

copies_kept : (lib : Library) (totals : List ℕ) (e : Element) (old new : List Copies) → IsCopied lib totals e old new → (c : Copies) → Contains old c → Contains new c
copies_kept lib totals e old new n c h =
    ⊎_elim (λ a. rw a.0 h) (λ b. ⊎_elim (λ a. rw a.0 h) (λ a. rw a.1 (Contains-append_left old (a.0 ∷ []) c h)) b) n

copies_cases : (lib : Library) (totals : List ℕ) (e : Element) (old new : List Copies) → IsCopied lib totals e old new → (c : Copies)
    → Contains new c → Contains old c ⊎ ((target_of lib e ≡ Some c.target) × AreCopies e.body c × IsReady (2 ^ 31) c
    × (get_or totals c.target 0 ≢ 0))
copies_cases lib totals e old new n c h =
    ⊎_elim (λ a. inl (rw a.0 at h))
    (λ b. ⊎_elim (λ a. inl (rw a.0 at h))
    (λ a. ⊎_elim (λ x. inl x) (λ (w : a.0 ≡ c). inr (rw (← w) a.2, rw (← w) a.3, rw (← w) a.4, rw (← w) a.5))
    (Contains-push_cases old a.0 c (rw a.1 at h))) b)
    n

copies_made : (lib : Library) (layer : Layer) (totals : List ℕ) (e : Element) (j : ℕ) (old new : List Copies)
    → IsCopied lib totals e old new → ((i : ℕ) → target_of lib e ≡ Some i → get_or totals i 0 ≡ 0 → IsBare lib layer i)
    → target_of lib e ≡ Some j → IsBare lib layer j ⊎ ((c : Copies) × Contains new c × (c.target ≡ j) × AreCopies e.body c)
copies_made lib layer totals e j old new n bare t =
    ⊎_elim (λ a. absurd (let f : None ≡ Some j = sym a.1 ∙ t in cc))
    (λ b. ⊎_elim (λ (a : (new ≡ old) × ((i : ℕ) × (target_of lib e ≡ Some i) × (get_or totals i 0 ≡ 0))). let w : a.1.0 ≡ j = some_is
    (sym a.1.1 ∙ t) in inl (rw (← w) (bare a.1.0 a.1.1 a.1.2)))
    (λ a. inr (a.0, rw a.1 (Contains-push old a.0), some_is (sym a.2 ∙ t), a.3)) b)
    n
  where
    some_is : {a b : ℕ} → Some a ≡ Some b → a ≡ b
    some_is e = cc

pub cell_more : (lib : Library) (layer : Layer) (totals : List ℕ) (es : List Element) (i : ℕ) (d : Element) (os os' : List Outline)
    (cs cs' : List Copies) → i < length es → AreCountedTargets lib layer totals es → IsNoted lib layer totals (get_or es i d) os os' cs cs'
    → IsCell lib layer (take i es) os cs → IsCell lib layer (take (i + 1) es) os' cs'
cell_more lib layer totals es i d os os' cs cs' h bare n c = record {
  drawn = λ o k. ⊎_elim (λ x. old_drawn o (c.drawn o x)) (λ x. new_drawn o x) (Contains-append_cases os more o (rw n.drawn at k));
  outlined = λ x qs k q. rw n.drawn (⊎_elim (λ y. Contains-append_left os more _ (c.outlined x qs y q))
      (λ (w : x ≡ e). Contains-append_right os more _ (rw w (Contains-map outline (loops_of layer e.body) qs (rw w at q))))
      (Contains-take_more es i d x h k));
  straight = λ o k. ⊎_elim (λ x. c.straight o x) (λ x. new_straight o x) (Contains-append_cases os more o (rw n.drawn at k));
  within = λ o k. ⊎_elim (λ x. c.within o x) (λ x. new_within o x) (Contains-append_cases os more o (rw n.drawn at k));
  placed = λ x k. ⊎_elim (λ y. old_placed x (c.placed x y)) (λ y. (e, Contains-take_last es i d e h refl, y.0, y.1)) (copies_cases lib totals e cs cs' n.copied x k);
  ready = λ x k. ⊎_elim (λ y. c.ready x y) (λ y. y.2) (copies_cases lib totals e cs cs' n.copied x k);
  full = λ x k. ⊎_elim (λ y. c.full x y) (λ y. bare.full e x.target (Contains-get_or es i d h) y.0 y.3) (copies_cases lib totals e cs cs' n.copied x k);
  copied = λ x j k t. ⊎_elim (λ y. old_copied x j (c.copied x j y t)) (λ (w : x ≡ e). new_copied x j w t) (Contains-take_more es i d x h k);
}
  where
    e : Element
    e = get_or es i d

    outline : List Pt → Outline
    outline qs = record { at = (get_or es i d).at; points = qs }

    more : List Outline
    more = map (λ qs. record { at = (get_or es i d).at; points = qs }) (loops_of layer (get_or es i d).body)

    old_drawn : (o : Outline) → IsDrawn layer (take i es) o → IsDrawn layer (take (i + 1) es) o
    old_drawn o x = (x.0, Contains-take_keeps es i d x.0 h x.1, x.2, x.3)

    new_drawn : (o : Outline) → Contains (map (λ qs. record { at = (get_or es i d).at; points = qs }) (loops_of layer (get_or es i d).body)) o → IsDrawn layer (take (i + 1) es) o
    new_drawn o x = let m = Contains-map_cases (λ qs. record { at = (get_or es i d).at; points = qs })
        (loops_of layer (get_or es i d).body) o x in
        (get_or es i d, Contains-take_last es i d (get_or es i d) h refl, ap (λ (z : Outline). z.at) (sym m.2), rw (← m.2) m.1)

    new_straight : (o : Outline) → Contains (map (λ qs. record { at = (get_or es i d).at; points = qs }) (loops_of layer (get_or es i d).body)) o → IsRectilinear o.points
    new_straight o x = let m = Contains-map_cases (λ qs. record { at = (get_or es i d).at; points = qs })
        (loops_of layer (get_or es i d).body) o x in
        rw (← m.2) (All-contains IsRectilinear (loops_of layer (get_or es i d).body) m.0 n.straight m.1)

    new_within : (o : Outline) → Contains (map (λ qs. record { at = (get_or es i d).at; points = qs }) (loops_of layer (get_or es i d).body)) o → ArePointsWithin (2 ^ 61) o.points
    new_within o x = let m = Contains-map_cases (λ qs. record { at = (get_or es i d).at; points = qs })
        (loops_of layer (get_or es i d).body) o x in
        rw (← m.2) (All-contains (ArePointsWithin (2 ^ 61)) (loops_of layer (get_or es i d).body) m.0 n.within m.1)

    old_placed : (x : Copies) → IsPlaced lib (take i es) x → IsPlaced lib (take (i + 1) es) x
    old_placed x y = (y.0, Contains-take_keeps es i d y.0 h y.1, y.2, y.3)

    old_copied : (x : Element) (j : ℕ) → IsBare lib layer j ⊎ ((c : Copies) × Contains cs c × (c.target ≡ j) × AreCopies x.body c)
        → IsBare lib layer j ⊎ ((c : Copies) × Contains cs' c × (c.target ≡ j) × AreCopies x.body c)
    old_copied x j y = ⊎_elim (λ z. inl z) (λ z. inr (z.0, copies_kept lib totals (get_or es i d) cs cs' n.copied z.0 z.1, z.2, z.3)) y

    new_copied : (x : Element) (j : ℕ) → x ≡ get_or es i d → target_of lib x ≡ Some j → IsBare lib layer j ⊎ ((c : Copies) × Contains cs' c × (c.target ≡ j) × AreCopies x.body c)
    new_copied x j w t = rw w (copies_made lib layer totals (get_or es i d) j cs cs' n.copied (λ a b z. bare.bare (get_or es i d) a (Contains-get_or es i d h) b z) (rw w at t))

pub cell_seen : (lib : Library) (layer : Layer) (totals : List ℕ) (es : List Found) (ts : List Element) (i : ℕ) (d : Found)
    (os os' : List Outline) (cs cs' : List Copies) → map element_seen es ≡ ts → i < length es → AreCountedTargets lib layer totals ts
    → IsNoted lib layer totals (element_seen (get_or es i d)) os os' cs cs' → IsCell lib layer (take i ts) os cs
    → IsCell lib layer (take (i + 1) ts) os' cs'
cell_seen lib layer totals es ts i d os os' cs cs' e h bare n c =
    cell_more lib layer totals ts i (element_seen d) os os' cs cs' (omega (arith, h, seen_length es ts e)) bare (rw (seen_at es ts i d (element_seen d) e h) n) c

pub cell_all : (lib : Library) (layer : Layer) (es : List Found) (ts : List Element) (i : ℕ) (os : List Outline) (cs : List Copies)
    → map element_seen es ≡ ts → length es ≤ i → IsCell lib layer (take i ts) os cs → IsCell lib layer ts os cs
cell_all lib layer es ts i os cs e h c = rw (take_all i ts (omega (arith, h, seen_length es ts e))) at c

-- the cells of the first n structures
pub record AreCellsBelow (lib : Library) (layer : Layer) (marks : List Bool) (n : ℕ) (cells : List Cell) : Type 0 where
  pub each : length cells ≡ n
  pub marked : (k : ℕ) → k < n → IsMarked marks k → IsCell lib layer (elements_at lib k) (outlines_at cells k) (copies_at cells k)
  pub unmarked : (k : ℕ) → ¬ IsMarked marks k → (copies_at cells k ≡ []) × (outlines_at cells k ≡ [])

pub below_none : (lib : Library) (layer : Layer) (marks : List Bool) (cells : List Cell) → cells ≡ [] → AreCellsBelow lib layer marks 0 cells
below_none lib layer marks cells e = record {
  each = ap length e;
  marked = λ k h m. absurd (omega (arith, h));
  unmarked = λ k m. (rw e refl, rw e refl);
}

cell_before : (cells : List Cell) (x : Cell) (k : ℕ) → k < length cells → slice_get (cells ++ x ∷ []) k ≡ slice_get cells k
cell_before cells x k h =
    slice_get-get_or (cells ++ x ∷ []) k x (omega (arith, h, length-append cells (x ∷ [])))
    ∙ (ap Some (get_or_append_left cells (x ∷ []) x k h) ∙ sym (slice_get-get_or cells k x h))

cell_last : (cells : List Cell) (x : Cell) (k : ℕ) → k ≡ length cells → slice_get (cells ++ x ∷ []) k ≡ Some x
cell_last cells x k h =
    rw h (slice_get-get_or (cells ++ x ∷ []) (length cells) x (omega (arith, length-append cells (x ∷ []))) ∙ ap Some (get_or-append_seam cells x [] x))

cell_past : (cells : List Cell) (x : Cell) (k : ℕ) → length cells < k → slice_get (cells ++ x ∷ []) k ≡ None
cell_past cells x k h = slice_get_past (cells ++ x ∷ []) k (omega (arith, h, length-append cells (x ∷ [])))

pub below_more : (lib : Library) (layer : Layer) (marks : List Bool) (n : ℕ) (marked : Bool) (x : Cell) (cells new : List Cell)
    → new ≡ cells ++ x ∷ [] → get_or marks n false ≡ marked → (marked ≡ true → IsCell lib layer (elements_at lib n) x.outlines x.copies)
    → (marked ≡ false → (x.copies ≡ []) × (x.outlines ≡ [])) → AreCellsBelow lib layer marks n cells
    → AreCellsBelow lib layer marks (n + 1) new
below_more lib layer marks n marked x cells new e is some none b = rw e (record {
  each = length-append cells (x ∷ []) ∙ omega (arith, b.each);
  marked = λ k h m. ⊎_elim (λ (l : k < n). before k l m) (λ (l : n ≤ k). last k (omega arith) m) (cases_lt k n);
  unmarked = λ k m. ⊎_elim (λ (w : k ≡ n). bare_last k w m) (λ o. ⊎_elim (λ (l : k < n). bare_before k l m)
      (λ (l : n < k). let s = cell_past cells x k (omega (arith, b.each)) in (ap copies_or_none s, ap outlines_or_none s)) o)
      (cases_order k n);
})
  where
    before : (k : ℕ) → k < n → IsMarked marks k → IsCell lib layer (elements_at lib k) (outlines_at (cells ++ x ∷ []) k) (copies_at (cells ++ x ∷ []) k)
    before k l m = let s = cell_before cells x k (omega (arith, l, b.each)) in rw (ap outlines_or_none s, ap copies_or_none s) (b.marked k l m)

    last : (k : ℕ) → k ≡ n → IsMarked marks k → IsCell lib layer (elements_at lib k) (outlines_at (cells ++ x ∷ []) k) (copies_at (cells ++ x ∷ []) k)
    last k w m =
        let s = cell_last cells x k (w ∙ sym b.each) in
        let on : marked ≡ true = sym is ∙ rw w at m in
        rw (ap outlines_or_none s, ap copies_or_none s) (rw w (some on))

    bare_before : (k : ℕ) → k < n → ¬ IsMarked marks k → (copies_at (cells ++ x ∷ []) k ≡ []) × (outlines_at (cells ++ x ∷ []) k ≡ [])
    bare_before k l m = let s = cell_before cells x k (omega (arith, l, b.each)) in (ap copies_or_none s ∙ (b.unmarked k m).0, ap outlines_or_none s ∙ (b.unmarked k m).1)

    bare_last : (k : ℕ) → k ≡ n → ¬ IsMarked marks k → (copies_at (cells ++ x ∷ []) k ≡ []) × (outlines_at (cells ++ x ∷ []) k ≡ [])
    bare_last k w m = let s = cell_last cells x k (w ∙ sym b.each) in let z = none (off marked refl) in (ap copies_or_none s ∙ z.0, ap outlines_or_none s ∙ z.1)
      where
        off : (o : Bool) → marked ≡ o → marked ≡ false
        off false e = e
        off true e = absurd (m (rw w (is ∙ e)))

pub below_all : (lib : Library) (layer : Layer) (marks : List Bool) (n : ℕ) (cells : List Cell) → length marks ≡ n
    → n ≡ length lib.structures → AreCellsBelow lib layer marks n cells → AreCells lib layer marks cells
below_all lib layer marks n cells e same b = record {
  each = b.each ∙ same;
  marked = λ k m. b.marked k (omega (arith, marked_below marks k m, e)) m;
  unmarked = b.unmarked;
}

pub taken_here : (layer : Layer) (es : List Found) (ts : List Element) (i : ℕ) (d : Found) → map element_seen es ≡ ts → i < length es
    → AreTaken layer ts → (f : ElementFault) → ¬ IsRefusedFor layer (element_seen (get_or es i d)).body f
taken_here layer es ts i d same h taken f r = taken (element_seen (get_or es i d)) f (rw (← same) (Contains-map element_seen es (get_or es i d) (Contains-get_or es i d h))) r
