use Rattle.std.proofs.Common.{◌≡◌, ◌∙◌}
use Rattle.std.proofs.lemmas.List.Elements.{same_from_all_zip}
use Rattle.dpl_slabs.proofs.parts.PartsClone.clone.Goals as goal

pub invariant_of-result : goal.invariant_of-result
invariant_of-result c =
    let same = same_from_all_zip (λ set copy. copy ≡ set) _ _ c.in_ok-clone.ensures.cases.0 (λ _ _ h. h) in
    rw same c.self.invariant

pub returns : goal.returns
returns c =
    let same = same_from_all_zip (λ set copy. copy ≡ set) _ _ c.in_ok-clone.ensures.cases.0 (λ _ _ h. h) in
    record { cases = same ∙ c.self.view_is }
