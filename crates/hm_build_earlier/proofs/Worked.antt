-- The worked examples.
use Rattle.std.proofs.Common.{◌≡◌, ℕ, List, [], length, map, refl, sym, ap, subst, arith}
use Rattle.std.proofs.lemmas.List.{length-map}
use Rattle.std.specs.Arc.{arc_value}
use Rattle.hm_lex.proofs.FirstFault.{faultless, shallow_nil}
use Rattle.hm_lex.specs.Cut.{IsCut}
use Rattle.hm_parse_grammar.specs.Grammar.Modules.{source_none}
use Rattle.hm_run_sources.specs.SourceModules.{HasModules}
use Rattle.hm_run_sources.proofs.ModuleCounts.{source_modules_once}
use Rattle.hm_build_earlier.specs.Worked.{KnownRow}

no_text : IsCut [] []
no_text = record { joined = refl; longest = tt }

-- an empty text spells no modules
no_modules : HasModules [] []
no_modules = record {
  tokens = [];
  lexed = record { short = omega arith; pieces = []; cut = no_text; tokens_are = refl; faultless = faultless [] [] no_text shallow_nil };
  parsed = source_none;
}

pub worked_sources : KnownRow
worked_sources = record {
  none = λ k text own. subst (λ l. HasModules l (map arc_value k.modules.now)) (sym text) (subst (λ ms. HasModules [] (map arc_value ms)) (sym own) no_modules);
  not_one = λ k text one known.
      let own = subst (λ (l : List ℕ). HasModules l (map arc_value k.modules.now)) text known in
      let none : length (map arc_value k.modules.now) ≡ 0 = ap length (source_modules_once [] (map arc_value k.modules.now) [] own no_modules) in
      omega (arith, none, one, length-map k.modules.now arc_value);
}
