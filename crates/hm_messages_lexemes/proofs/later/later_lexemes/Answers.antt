use Rattle.std.proofs.Common.{rules, ◌≡◌, ◌∙◌, ◌+◌, ◌≤◌, ◌++◌, ◌∷◌, [], List, ap, arith, length, length-append, subst, sym}
use Rattle.hm_lex.specs.Faults.{IsRefusal}
use Rattle.hm_lex.specs.declared.token.LexFault.TheVariants.{Lexeme}
use Rattle.hm_lex.specs.declared.token.Place.{Place}
use Rattle.hm_messages_lexemes.specs.Lexemes.{IsBlankedAt}
use Rattle.hm_messages_lexemes.proofs.Chains.{IsReached, later_of, reached_more}
use Rattle.hm_messages_lexemes.proofs.later.later_lexemes.Goals as goal

pub returns-in_default-clause-faults : goal.returns-in_default-clause-faults
returns-in_default-clause-faults c = later_of c.args.source.now c.args.place c.faults.places.items c.faults.text.items c.faults.last c.faults.invariant.reached

pub returns-in_default-lex-clause-faults : goal.returns-in_default-lex-clause-faults
returns-in_default-lex-clause-faults c = later_of c.args.source.now c.args.place c.faults.places.items c.faults.text.items c.faults.last c.faults.invariant.reached

pub faults-preserved : goal.faults-preserved
faults-preserved c =
    let source = c.args.source.now in
    let places = c.faults.places.items in
    let text = c.faults.text.items in
    let last = c.faults.last in
    let other = c.in-Some.other.items in
    let next = c.in-Err-Lexeme.next in
    let pushed : c.push.new.self.items ≡ places ++ next ∷ [] = c.in_ok-push.ensures.items in
    let blanked : IsBlankedAt text last other = search rules in
    let refused : IsRefusal other (Lexeme next) = search rules in
    record {
      reached = subst (λ (l : List Place). IsReached source c.args.place l other next) (sym pushed) (reached_more source c.args.place places text last other next c.faults.invariant.reached blanked refused);
      count = omega (arith, c.faults.invariant.count, ap (λ (l : List Place). length l) pushed, length-append places (next ∷ []));
    }

pub returns-clause-faults : goal.returns-clause-faults
returns-clause-faults c = later_of c.args.source.now c.args.place c.faults.places.items c.faults.text.items c.faults.last c.faults.invariant.reached
