use Rattle.std.proofs.Common.{◌∷◌, ◌∙◌, List, Option, map, Bor, ap, sym, subst}
use Rattle.std.proofs.lemmas.Result.{IfOk-weaker}
use Rattle.std.specs.Arc.{arc_value}
use Rattle.hm_types.specs.Interfaces.{Exports as Interface}
use Rattle.hm_names.specs.declared.faults.Fault.{Fault}
use Rattle.hm_names.specs.Bindings.{IsScopeOf}
use Rattle.hm_names.specs.Faults.Phases.{Importing}
use Rattle.hm_scope_imports.specs.Apart.{AreNamedApart}
use Rattle.hm_scope.specs.PhaseAnswers.{AreExact, IsPhaseAnswer}
use Rattle.hm_scope.specs.Answers.{IsAnswerBehind}
use Rattle.hm_scope.proofs.PhasesInOrder.{before_importing}
use Rattle.hm_scope.proofs.scoping.phases_answer.Goals as goal

pub import_faults-requires : goal.import_faults-requires
import_faults-requires c =
    let lent = ap (λ (l : List (Bor Interface)). map (λ f. f.now) l) c.deref.ensures.value ∙ c.in_ok-interfaces.ensures in
    subst AreNamedApart (sym lent) c.requires

pub returns-in-Some : goal.returns-in-Some
returns-in-Some c =
    let m = c.args.program.now in
    let fs : List Interface = c.args.prelude.now ∷ map arc_value c.args.imports.now in
    let lent = ap (λ (l : List (Bor Interface)). map (λ f. f.now) l) c.deref.ensures.value ∙ c.in_ok-interfaces.ensures in
    let importing = c.in_ok-found.ensures m fs Importing (subst (λ (gs : List Interface). AreExact m gs Importing c.in_ok-import_faults.field-0.items) lent c.in_ok-import_faults.ensures) in
    subst (λ (o : Option (List Fault)). IsPhaseAnswer m fs Importing o) c.in-Some.is importing (before_importing m fs)

pub behind_imports-requires : goal.behind_imports-requires
behind_imports-requires c =
    let lent = ap (λ (l : List (Bor Interface)). map (λ f. f.now) l) c.deref-2.ensures.value ∙ c.in_ok-interfaces.ensures in
    subst (λ (gs : List Interface). IsScopeOf c.args.program.now gs c.in_ok-scope.scope) (sym lent) c.in_ok-scope.ensures

pub returns : goal.returns
returns c =
    let m = c.args.program.now in
    let fs : List Interface = c.args.prelude.now ∷ map arc_value c.args.imports.now in
    let lent = ap (λ (l : List (Bor Interface)). map (λ f. f.now) l) c.deref.ensures.value ∙ c.in_ok-interfaces.ensures in
    let lent_again = ap (λ (l : List (Bor Interface)). map (λ f. f.now) l) c.deref-2.ensures.value ∙ c.in_ok-interfaces.ensures in
    let importing = c.in_ok-found.ensures m fs Importing (subst (λ (gs : List Interface). AreExact m gs Importing c.in_ok-import_faults.field-0.items) lent c.in_ok-import_faults.ensures) in
    let none = subst (λ (o : Option (List Fault)). IsPhaseAnswer m fs Importing o) c.in-None.is importing in
    IfOk-weaker c.behind_imports.result _ _ (λ answer h. subst (λ (gs : List Interface). IsAnswerBehind m gs answer) lent_again h none) c.behind_imports.ensures
