use Rattle.std.proofs.Common.{sym, inr, subst}
use Rattle.std.proofs.lemmas.Bool.{false≢true}
use Rattle.std.proofs.lemmas.Result.{IfOk-weaker}
use Rattle.dpl_cert.specs.declared.cert.Cert.{Cert}
use Rattle.dpl_spec_verdict.specs.Masks.{IsVerdictOfMasks}
use Rattle.dpl_check.proofs.masks.check_masks.Goals as goal

pub returns : goal.returns
returns c = λ marks are.
    IfOk-weaker c.verdict_from_counts.result _ _ (λ verdict told.
    let after = rw (c.items.ensures, c.items-2.ensures) at told in
    subst (λ (x : Cert). IsVerdictOfMasks marks c.args.spacing c.args.overlap c.args.layer.now c.args.a.now c.args.b.now x verdict) (sym c.in-Masks.is)
    (inr ((λ differ. false≢true (c.if-rules_differ.ensures.1 differ)), after)))
    (c.verdict_from_counts.ensures marks are)
