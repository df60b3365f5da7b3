use Rattle.std.proofs.Common.{◌≡◌, ◌∙◌, ◌∷◌, ◌+◌, ◌<◌, ap, sym, drop, get_or, length, map, List, ℕ}
use Rattle.std.specs.Prelude.{option_map}
use Rattle.std.proofs.lemmas.List.{drop_all, drop_more}
use Rattle.clap.specs.Walk.{Text}
use Rattle.dpl_host.specs.Outside.{with_file}
use Rattle.dpl_run.specs.View.{name_text, write_view}
use Rattle.dpl_run.specs.declared.output.Write.{Write}
use Rattle.dpl_run.proofs.Leads.{lead_next, lead_part, on_err}
use Rattle.dpl_run.proofs.Parts.{left_next}
use Rattle.dpl_run.proofs.output.perform.Goals as goal

-- the next file, and those behind it
next_is : (items : List Write) (i : ℕ) (w : Write) → i < length items → w ≡ get_or items i w
    → ◌≡◌ {A = List (Text × List ℕ)} (map write_view (drop i items)) (write_view w ∷ map write_view (drop (i + 1) items))
next_is items i w within is = ap (map write_view) (drop_more items i w within ∙ ap (λ (x : Write). x ∷ drop (i + 1) items) (sym is))

pub loop-write-preserved : goal.loop-write-preserved
loop-write-preserved g c =
    let w = c.write-item.result in
    let next = next_is c.deref-write-items.result.now c.loop-write.write-index w c.loop-write-test.true c.write-item.is in
    let told = g.H.Host.told c.loop-write.host in
    let put = rw c.text.ensures at c.in_ok-write_all.ensures.ok in
    let logged = rw c.text.ensures at c.in_ok-write_all.ensures.logged in
    record {
      left = left_next _ _ _ (write_view w) _ _ told _ c.loop-write.invariant.left next
          (put ∙ ap (λ (b : List ℕ). option_map (with_file (name_text w.name) b) told) c.as_slice.ensures.value);
      counted = c.in_ok-write_all.ensures.cause.worked ∙ c.loop-write.invariant.counted;
      others = c.in_ok-write_all.ensures.others ∙ c.loop-write.invariant.others;
      calls = lead_next c.loop-write.invariant.calls next logged;
    }

pub returns-in_err-write_all-clause-begun : goal.returns-in_err-write_all-clause-begun
returns-in_err-write_all-clause-begun g c =
    let next = next_is c.deref-write-items.result.now c.loop-write.write-index c.write-item.result c.loop-write-test.true c.write-item.is in
    lead_part c.from_residual.result c.loop-write.invariant.calls next (rw c.text.ensures at c.in_err-write_all.ensures.logged)

pub returns-clause-begun : goal.returns-clause-begun
returns-clause-begun g c =
    on_err c.say_all.result c.loop-write.invariant.calls (ap (map write_view) (drop_all c.loop-write.write-index c.deref-write-items.result.now c.loop-write-test.false))
    c.say_all.ensures.logged
