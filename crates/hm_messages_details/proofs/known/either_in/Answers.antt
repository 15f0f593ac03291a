use Rattle.std.proofs.Common.{◌∙◌, sym, subst}
use Rattle.hm_names.specs.Bindings.{IsScopeOf, Pair}
use Rattle.hm_messages_details.specs.Candidates.{IsCandidate}
use Rattle.hm_messages_details.specs.Details.{IsEntityFor, candidate_of}
use Rattle.hm_messages_details.proofs.known.either_in.Goals as goal

pub returns : goal.returns
returns c = λ f fs kind name scope.
    let m = c.args.program.now in
    let one : Pair = c.in_ok-one.one.now in
    let other : Pair = c.in_ok-other.other.now in
    let row : IsScopeOf m fs c.pairs-row.result.now = subst (IsScopeOf m fs) (sym c.pairs-row.ensures) scope in (
      kind,
      record {
        space = c.args.space;
        one = one;
        one_in_scope = (row one).0 c.in_ok-one.ensures.0;
        one_named = subst (λ x. IsEntityFor x c.args.space one) (sym name) c.in_ok-one.ensures.1;
        one_is = subst (λ e. IsCandidate m fs c.args.space e (candidate_of c.candidate-first.result)) c.entity-2.ensures (c.candidate-first.ensures fs row);
        other = other;
        other_in_scope = (row other).0 c.in_ok-other.ensures.0;
        other_named = subst (λ x. IsEntityFor x c.args.space other) (sym name) c.in_ok-other.ensures.1;
        other_is = subst (λ e. IsCandidate m fs c.args.space e (candidate_of c.candidate-second.result)) c.entity-3.ensures (c.candidate-second.ensures fs row);
        differ = λ same. c.in_ok-other.ensures.2 (sym same ∙ sym c.entity.ensures);
      },
    )
