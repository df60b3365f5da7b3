-- Reading a boundary without flags and properties.
use Rattle.std.proofs.Common.{◌≡◌, ℕ, ◌<◌, ◌≤◌, length, Bool, true, false, cond, eqb, List, [], ◌∷◌, ◌++◌, Some, None}
use Rattle.std.proofs.Common.{Result, Ok, Err, refl, ap, ◌∙◌}
use Rattle.std.proofs.lemmas.Bool.{eq-eqb}
use Rattle.dpl_spec_format.specs.Kinds as kinds
use Rattle.dpl_spec_format.specs.Faults.{Fault, unexpected}
use Rattle.dpl_spec_format.specs.Fields.{u16_at}
use Rattle.dpl_spec_format.specs.Records.{Record, record_at}
use Rattle.dpl_spec_format.specs.Tree.{Body, is_boundary, body_of}
use Rattle.dpl_syntax.specs.Reading as reading
use Rattle.dpl_syntax.specs.Reading.{◌>>=◌, Item, must, Slots, items_at, pick, body_at, body_behind_flags, flags_end}
use Rattle.dpl_syntax.specs.Passing.{IsTakenElement}
use Rattle.dpl_syntax.proofs.Taking.{taken}
use Rattle.dpl_syntax.proofs.Ends.{bare_end}
use Rattle.dpl_syntax.proofs.Flags.{answers_body}
use Rattle.dpl_syntax.proofs.WholeElements.{element_ok}

-- a record of this type stands there
pub record Stands (bytes : List ℕ) (at kind : ℕ) (r : Record) : Type 0 where
  pub found : record_at bytes at ≡ Ok r
  pub is : r.kind ≡ kind

module _ (bytes : List ℕ) where
  is_taken : (kind at : ℕ) (r : Record) → Stands bytes at kind r → reading.take bytes kind at ≡ Ok (r, r.next)
  is_taken kind at r s =
      ap (λ (x : Result Record Fault). x >>= λ q. cond (eqb q.kind kind) (taken (q, q.next)) (Err (unexpected at))) s.found
      ∙ ap (λ (b : Bool). cond b (taken (r, r.next)) (Err (unexpected at))) (eq-eqb r.kind kind s.is)

  choice_of : (kind at : ℕ) (r : Record) (b : Bool) → record_at bytes at ≡ Ok r → eqb r.kind kind ≡ b
      → reading.take_if bytes kind at ≡ cond b (reading.kept (Some r, r.next)) (reading.kept (None, at))
  choice_of kind at r b found is =
      ap (λ (x : Result Record Fault). x >>= λ q. cond (eqb q.kind kind) (reading.kept (Some q, q.next)) (reading.kept (None, at))) found
      ∙ ap (λ (c : Bool). cond c (reading.kept (Some r, r.next)) (reading.kept (None, at))) is

  no_flags : (at : ℕ) (r : Record) → Stands bytes at kinds.layer r → flags_end bytes at ≡ Ok at
  no_flags at r s =
      let elflags = choice_of kinds.elflags at r false s.found (ap (λ (k : ℕ). eqb k kinds.elflags) s.is) in
      let plex = choice_of kinds.plex at r false s.found (ap (λ (k : ℕ). eqb k kinds.plex) s.is) in
      ap (λ x. x >>= λ flags. reading.take_if bytes kinds.plex flags.1 >>= λ p. Ok p.1) elflags ∙ ap (λ x. x >>= λ p. Ok p.1) plex

  one_more : (kind at : ℕ) (is : List Item) (r : Record) (y : Slots × ℕ) → Stands bytes at kind r → items_at bytes is r.next ≡ Ok y
      → items_at bytes (must kind ∷ is) at ≡ Ok ((kind, Some r) ∷ y.0, y.1)
  unfolding items_at
  one_more kind at is r y s e =
      ap (λ (x : Result (Record × ℕ) Fault). reading.one_slot bytes kind x >>= λ first. items_at bytes is first.1 >>= λ others. Ok
      (first.0 ++ others.0, others.1)) (is_taken kind at r s)
      ∙ ap (λ (x : Result (Slots × ℕ) Fault). x >>= λ others. Ok (((kind, Some r) ∷ []) ++ others.0, others.1)) e

  no_more : (at : ℕ) → items_at bytes [] at ≡ Ok ([], at)
  unfolding items_at
  no_more at = refl

  module _ (l d x : Record) where
    abbrev boundary_by : Body
    boundary_by = is_boundary (record { layer = u16_at l.body 0; datatype = u16_at d.body 0; xy = x.body })

    behind : (at : ℕ) → Stands bytes at kinds.layer l → Stands bytes l.next kinds.datatype d → Stands bytes d.next kinds.xy x
        → body_behind_flags bytes kinds.boundary at ≡ Ok (boundary_by, x.next)
    behind at layer datatype xy =
        let last = one_more kinds.xy d.next [] x ([], x.next) xy (no_more x.next) in
        let two = one_more kinds.datatype l.next (must kinds.xy ∷ []) d ((kinds.xy, Some x) ∷ [], x.next) datatype last in
        let three = one_more kinds.layer at (must kinds.datatype ∷ must kinds.xy ∷ []) l
        ((kinds.datatype, Some d) ∷ (kinds.xy, Some x) ∷ [], x.next) layer two in
        ap (λ (r : Result (Slots × ℕ) Fault). r >>= λ found. Ok (body_of kinds.boundary (pick found.0), found.1)) three

    body : (at : ℕ) → Stands bytes at kinds.layer l → Stands bytes l.next kinds.datatype d → Stands bytes d.next kinds.xy x
        → body_at bytes kinds.boundary at ≡ Ok (boundary_by, x.next)
    body at layer datatype xy =
        answers_body kinds.boundary bytes (λ (y : Body × ℕ). y) (Ok (boundary_by, x.next)) at at (no_flags at l layer) (behind at layer datatype xy)

    pub plain_boundary : (at : ℕ) (h e : Record) → Stands bytes at kinds.boundary h → at < h.next → h.next ≤ length bytes
        → Stands bytes h.next kinds.layer l → Stands bytes l.next kinds.datatype d → Stands bytes d.next kinds.xy x → Stands bytes x.next kinds.endel e
        → IsTakenElement bytes at (record { at = h.at; body = boundary_by }) e.next
    plain_boundary at h e first after within layer datatype xy end =
        let begins : kinds.begins_element h.kind ≡ true = ap kinds.begins_element first.is in
        let made : body_at bytes h.kind h.next ≡ Ok (boundary_by, x.next) = ap (λ (k : ℕ). body_at bytes k h.next) first.is
        ∙ body h.next layer datatype xy in
        let ends = choice_of kinds.endel x.next e true end.found (eq-eqb e.kind kinds.endel end.is) in
        record {
          first = h;
          is_next = record { found = first.found; after = after; within = within; begins = begins };
          passes = element_ok bytes at h first.found begins (boundary_by, x.next) e.next made (bare_end bytes x.next e.next e ends);
        }
