-- Worked examples of names that may be written, by computing.
use Rattle.std.proofs.Common.{◌≡◌, ℕ, List, Option, refl, ap, ◌∙◌, arith, codes, string_bytes}
use Rattle.std.specs.Prelude.{option_map}
use Rattle.serde_json.specs.Data.{Data, member, no_members, number, object, string, unsigned}
use Rattle.hm_lsp_values.specs.Completions.{completion_data, completion_kind, typed_members}
use Rattle.hm_lsp_values.specs.Spans.{span_data}
use Rattle.hm_lsp_values.specs.Worked.{CompletionsRow, second, start}
use Rattle.hm_names.specs.declared.namespace.Namespace.{Namespace}
use Rattle.hm_scope_typed_names.specs.declared.typed.TypedName.{TypedName}

-- a name by its parts
made : Namespace → List ℕ → Option (List ℕ) → Data
made space text scheme = object (typed_members scheme (member (codes "kind") (number (unsigned (completion_kind space))) (member (codes "label") (string text)
    (member (codes "textEdit") (object (member (codes "newText") (string text) (member (codes "range") (span_data start second) no_members))) no_members))))

by_parts : (n : TypedName) (space : Namespace) (text : List ℕ) (scheme : Option (List ℕ)) → n.space ≡ space → string_bytes n.text ≡ text → option_map string_bytes n.scheme ≡ scheme → completion_data start second n ≡ made space text scheme
unfolding made
by_parts n space text scheme one two three =
    ap (λ (s : Namespace). made s (string_bytes n.text) (option_map string_bytes n.scheme)) one ∙ ap (λ (t : List ℕ). made space t (option_map string_bytes n.scheme)) two ∙ ap (λ (o : Option (List ℕ)). made space text o) three

pub worked_completions : CompletionsRow
unfolding made
worked_completions = record {
  of_type = λ n space text scheme. by_parts n _ _ _ space text scheme;
  of_variable = λ n space text scheme. by_parts n _ _ _ space text scheme;
  not_alike = others _ _ refl refl;
  no_names = refl;
}
  where
    others : (x y : ℕ) → x ≡ 3 → y ≡ 4 → x ≡ y → ⊥
    others x y a b e = omega (arith, a, b, e)
