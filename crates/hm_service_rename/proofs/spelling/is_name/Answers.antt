use Rattle.std.proofs.Common.{rules, ◌≡◌, ℕ, List, subst}
use Rattle.std.proofs.lemmas.Bool.{false≢true}
use Rattle.hm_lex.specs.Faults.{IsRefusal}
use Rattle.hm_lex.specs.declared.token.LexFault.TheVariants.{Memory}
use Rattle.hm_service_rename.proofs.Spelled.{no_name_refused}
use Rattle.hm_service_rename.proofs.spelling.is_name.Goals as goal

pub returns-in-Err : goal.returns-in-Err
returns-in-Err c =
    let other : ¬ (c.in-Err._fault ≡ Memory) = search rules in
    let refused = subst (λ (l : List ℕ). IsRefusal l c.in-Err._fault) c.as_bytes-bytes.ensures.value c.in-Err.ensures.fault in
    record { yes = λ e. absurd (false≢true e); no = λ _. no_name_refused c.args.text.now c.in-Err._fault other refused }
