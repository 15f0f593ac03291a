use Rattle.std.proofs.Common.{◌≡◌, IfSome, refl, subst, true}
use Rattle.hm_messages_details.specs.Candidates.{HasLine, IsImplicit, IsOfImports}
use Rattle.hm_messages_details.proofs.Meant.{implicit_alone, with_qualifier, without_qualifier}
use Rattle.hm_messages_details.proofs.candidates.candidate.Goals as goal

pub returns-in-Some : goal.returns-in-Some
returns-in-Some c = λ fs scope.
    let m = c.args.program.now in
    let e = c.args.entity.now in
    let implicit : (c.is_preludes-is_implicit.result ≡ true) → IsImplicit m fs c.args.space e = λ yes.
    let so = c.is_preludes-is_implicit.ensures yes in implicit_alone m fs c.args.pairs.now c.args.space e scope so.0 so.1 so.2 in
    let q = c.in-Some.qualifier.now in
    with_qualifier m fs c.args.pairs.now c.args.space q c.args.entity.now _ scope c.in-Some.ensures c.origin_of-origin.ensures refl
    (λ l at. subst (λ o. IfSome o (λ l. IsOfImports m q × HasLine m.header.imports q l)) at c.import_line.ensures) implicit

pub returns-in-None : goal.returns-in-None
returns-in-None c = λ fs scope.
    let m = c.args.program.now in
    let e = c.args.entity.now in
    let implicit : (c.is_preludes-is_implicit.result ≡ true) → IsImplicit m fs c.args.space e = λ yes.
    let so = c.is_preludes-is_implicit.ensures yes in implicit_alone m fs c.args.pairs.now c.args.space e scope so.0 so.1 so.2 in
    without_qualifier m fs c.args.space e _ c.origin_of-origin.ensures refl implicit
