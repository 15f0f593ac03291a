-- The faults of the sources of a refused set: those of one source more.
use Rattle.std.proofs.Common.{◌≡◌, ℕ, ◌+◌, ◌-◌, ◌<◌, ◌≤◌, List, [], ◌∷◌, ◌++◌, None, Some, length, map, take, drop, get_or, refl, sym, ap, subst, ◌∙◌, append_assoc, append-nil, length-append, length-drop, arith}
use Rattle.std.proofs.lemmas.List.{take_more, length-map, length-take-le, drop-append-le}
use Rattle.hm_lex.specs.declared.token.LexFault.TheVariants.{Lexeme}
use Rattle.hm_lex.specs.declared.token.Place.{Place}
use Rattle.hm_messages.specs.FurtherFaults.{AreFaultsOf, AreLaterFaults, AreSourceFaults, IsFirstFault}
use Rattle.hm_messages.specs.Messages.{AreEach}
use Rattle.hm_messages.specs.Refused.{AreRefusalMessages}
use Rattle.hm_messages.specs.declared.heading.MessageFormat.{MessageFormat}
use Rattle.hm_messages.proofs.InOrder.{each_append, each_mapped}
use Rattle.hm_messages_lexemes.specs.Lexemes.{AreLaterLexemes}
use Rattle.hm_run_sources.specs.Refusals.{Refusal, lex, parse, plan}
use Rattle.hm_build_output.specs.FurtherStated.{AreFaultsStated, AreLaterOf, IsLaterStated}

faults_more : (n : ℕ) (ss : List (List ℕ)) (s : List ℕ) (faults own : List Refusal) → AreSourceFaults n ss faults → AreFaultsOf (n + length ss) s own
    → AreSourceFaults n (ss ++ s ∷ []) (faults ++ own)
faults_more n [] s faults own none h =
    (own, [], subst (λ k. AreFaultsOf k s own) (omega arith) h, refl, ap (λ l. l ++ own) none ∙ sym (append-nil own))
faults_more n (t ∷ ts) s faults own each h = (
  each.0,
  each.1 ++ own,
  each.2,
  faults_more (n + 1) ts s each.1 own each.3 (subst (λ k. AreFaultsOf k s own) (omega arith) h),
  ap (λ l. l ++ own) each.4 ∙ append_assoc each.0 each.1 own,
)

-- what is behind the first fault of a source, by the source's number
behind_first : (sources : List (List ℕ)) (source : ℕ) (fault : Refusal) (faults : List Refusal) → IsFirstFault (source + 1) (get_or sources source []) (Some fault) → AreLaterOf sources fault faults
    → AreLaterFaults (get_or sources source []) fault faults
behind_first sources source (lex n fault) faults h later =
    subst (λ (k : ℕ). AreLaterFaults (get_or sources k []) (lex n fault) faults) (ap (λ (k : ℕ). k - 1) h.0.0 ∙ omega arith) later
behind_first sources source (parse n fault) faults h later = later
behind_first sources source (plan fault m i) faults h later = later

module _ (format : MessageFormat) (files sources : List (List ℕ)) where
  -- a message of a fault of one source
  abbrev pub Tells : Refusal → List ℕ → Type 0
  Tells r t = AreRefusalMessages format files sources r 1 t

  pub told_first : (source errors : ℕ) (fault : Refusal) (message text : List ℕ) → IsFirstFault (source + 1) (get_or sources source []) (Some fault) → Tells fault message
      → IsLaterStated format files sources fault errors text → AreFaultsStated format files sources source (1 + errors) (message ++ text)
  told_first source errors fault message text first tells later = record {
    faults = fault ∷ later.faults;
    are = (first, behind_first sources source fault later.faults first later.later);
    each = (message, text, tells, later.each, refl);
    count = omega (arith, later.count);
  }

  pub told_none : (source : ℕ) → IsFirstFault (source + 1) (get_or sources source []) None → AreFaultsStated format files sources source 0 []
  told_none source first = record { faults = []; are = first; each = refl; count = refl }

  pub told_later : (n errors : ℕ) (place : Place) (places : List Place) (text : List ℕ) → AreLaterLexemes (get_or sources (n - 1) []) place places
      → AreEach (λ p t. Tells (lex n (Lexeme p)) t) places text → errors ≡ length places → IsLaterStated format files sources (lex n (Lexeme place)) errors text
  told_later n errors place places text later each count = record {
    faults = map (λ p. lex n (Lexeme p)) places;
    later = (places, later, refl);
    each = each_mapped (λ p. lex n (Lexeme p)) Tells places text each;
    count = count ∙ sym (length-map places (λ p. lex n (Lexeme p)));
  }

  -- the sources from one up to another, counted from 0, are told, with as many errors
  pub record AreStated (from to errors : ℕ) (text : List ℕ) : Type 0 where
    pub faults : List Refusal
    pub are : AreSourceFaults (from + 1) (drop from (take to sources)) faults
    pub each : AreEach Tells faults text
    pub count : errors ≡ length faults

  module _ (from to errors : ℕ) (text : List ℕ) (low : from ≤ to) (within : to < length sources) (told : AreStated from to errors text) where
    behind : drop from (take (to + 1) sources) ≡ drop from (take to sources) ++ get_or sources to [] ∷ []
    behind =
        ap (drop from) (take_more sources to [] within)
        ∙ drop-append-le from (take to sources) (get_or sources to [] ∷ []) (omega (arith, length-take-le to sources (omega arith)))

    number : to + 1 ≡ from + 1 + length (drop from (take to sources))
    number = omega (arith, length-drop from (take to sources), length-take-le to sources (omega arith))

    pub told_more : (more : ℕ) (message : List ℕ) → AreFaultsStated format files sources to more message → AreStated from (to + 1) (errors + more) (text ++ message)
    told_more more message h = record {
      faults = told.faults ++ h.faults;
      are =
          subst (λ l. AreSourceFaults (from + 1) l (told.faults ++ h.faults)) (sym behind)
          (faults_more (from + 1) (drop from (take to sources)) (get_or sources to []) told.faults h.faults told.are (subst (λ k. AreFaultsOf k (get_or sources to []) h.faults) number h.are));
      each = each_append Tells told.faults h.faults text message told.each h.each;
      count = omega (arith, told.count, h.count, length-append told.faults h.faults);
    }
