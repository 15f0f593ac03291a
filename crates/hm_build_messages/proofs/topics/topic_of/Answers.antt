use Rattle.std.proofs.Common.{rules, ◌≡◌, List, ℕ, string_bytes, subst, sym}
use Rattle.std.specs.Prelude.{IfSome}
use Rattle.hm_messages.specs.Subjects.{Subject, too_few_arguments, too_many_arguments}
use Rattle.hm_messages_arguments.specs.Counts.{HasOneFewer, HasOneMore}
use Rattle.hm_messages_trials.specs.declared.mends.Mend.{Mend}
use Rattle.hm_messages_trials.specs.declared.mends.Mend.TheVariants.{Insertion as insertion_mend}
use Rattle.hm_messages_changes.specs.declared.insertions.Insertion.{Insertion}
use Rattle.hm_build_messages.specs.Explanations.{AreCounts, IsSubjectOf, by_way, too_few, too_many}
use Rattle.hm_build_messages.proofs.topics.topic_of.Goals as goal

pub returns-in_default : goal.returns-in_default
returns-in_default c = λ source counted. subst (λ (s : Subject). IsSubjectOf source c.args.definition.now c.args.mend.now c.args.other s) (sym c.way_of.ensures) by_way

pub returns-in-Removal : goal.returns-in-Removal
returns-in-Removal c = λ source counted.
    let counts = c.in-Some.counts in
    let x = c.args.definition.now in
    let p = c.args.other in
    let same : string_bytes counts.function ≡ c.as_str.result.now = search rules in
    let facts = subst (λ o. IfSome o (λ a. AreCounts source c.args.mend.now (string_bytes a.function) a.here a.then)) c.in-Some.is counted in
    let fewer = subst (λ m. AreCounts source m (string_bytes counts.function) counts.here counts.then) c.in-Removal.is facts in
    let named : HasOneFewer source c.in-Removal.field-0 c.as_str.result.now counts.here counts.then = subst (λ (f : List ℕ). HasOneFewer source c.in-Removal.field-0 f counts.here counts.then) same fewer in
    subst (λ (m : Mend). IsSubjectOf source x m p (too_many_arguments x c.as_str.result.now counts.here counts.then p)) (sym c.in-Removal.is) (too_many named)

pub returns-in-Argument : goal.returns-in-Argument
returns-in-Argument c = λ source counted.
    let counts = c.in-Some.counts in
    let x = c.args.definition.now in
    let p = c.args.other in
    let part = c.in-Insertion.field-1 in
    let same : string_bytes counts.function ≡ c.as_str.result.now = search rules in
    let facts = subst (λ o. IfSome o (λ a. AreCounts source c.args.mend.now (string_bytes a.function) a.here a.then)) c.in-Some.is counted in
    let inserted = subst (λ m. AreCounts source m (string_bytes counts.function) counts.here counts.then) c.in-Insertion.is facts in
    let more = subst (λ (i : Insertion). AreCounts source (insertion_mend i part) (string_bytes counts.function) counts.here counts.then) c.in-Argument.is inserted in
    let named : HasOneMore source part c.as_str.result.now counts.here counts.then = subst (λ (f : List ℕ). HasOneMore source part f counts.here counts.then) same more in
    let subject = too_few_arguments x c.as_str.result.now counts.here counts.then p in
    subst (λ (m : Mend). IsSubjectOf source x m p subject) (sym c.in-Insertion.is)
    (subst (λ (i : Insertion). IsSubjectOf source x (insertion_mend i part) p subject) (sym c.in-Argument.is) (too_few named))
