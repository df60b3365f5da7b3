use Rattle.std.proofs.Common.{◌≡◌, ◌∙◌, ◌++◌, ◌∷◌, [], ap, append_assoc, length, rules, List, ℕ}
use Rattle.std.specs.Prelude.{string_bytes}
use Rattle.dpl_cert.proofs.Parts.{all-met, parts-more, parts-none}
use Rattle.dpl_cert.proofs.lists.put_parts.Goals as goal

pub loop-part-init : goal.loop-part-init
loop-part-init c = record { all = search rules; put = parts-none (string_bytes c.args.out.now) }

pub loop-part-preserved : goal.loop-part-preserved
loop-part-preserved c =
    let met = c.loop-part.yielded in
    let all : met ++ c.in-Some.part ∷ c.next.new.self.rest.items ≡ c.args.parts.items = search rules in
    let put : string_bytes c.push_str.new.self ≡ string_bytes c.loop-part.out ++ string_bytes c.in_ok-part.part = c.in_ok-push_str.ensures.bytes
    ∙ ap (λ (t : List ℕ). string_bytes c.loop-part.out ++ t) c.as_str.ensures.value in
    record {
      all = append_assoc met (c.in-Some.part ∷ []) c.next.new.self.rest.items ∙ all;
      put = parts-more met c.in-Some.part c.in_ok-part.part _ _ _ c.loop-part.invariant.put c.in_ok-part.was put;
    }

pub returns : goal.returns
returns c =
    let left = c.loop-part.part-iterator.rest.items in
    let none : length left ≡ 0 = search rules in
    rw (all-met c.loop-part.yielded left c.args.parts.items none c.loop-part.invariant.all) at c.loop-part.invariant.put
