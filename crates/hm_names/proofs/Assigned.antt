-- A table with texts as keys, and what it assigns.
use Rattle.std.proofs.Common.{◌≡◌, ℕ, List, [], ◌∷◌, Some, cond, if◌then◌else◌, string_bytes, refl, sym, ap, ◌∙◌, bytes_eq}
use Rattle.std.specs.HashMap.{HashMap, UpdatesBy}
use Rattle.std.specs.Map.{lookup}
use Rattle.std.specs.String.{string_eq}
use Rattle.std.specs.declared.string.String.{String}
use Rattle.std.proofs.lemmas.Map.Text.{hash_map_updates_text}
use Rattle.hm_types.specs.Schemes.{TypeScheme}
use Rattle.hm_names.specs.SchemeTables.{Assignment, assigned, scheme_of}

module _ {A : Type 0} where
  -- looking up by bytes
  pub scheme_of_assigned : (entries : List (String A × TypeScheme)) (x : List ℕ) → lookup (λ k. bytes_eq x (string_bytes k)) entries ≡ scheme_of (assigned entries) x
  scheme_of_assigned [] x = refl
  scheme_of_assigned (e ∷ es) x = ap (cond (bytes_eq x (string_bytes e.0)) (Some e.1)) (scheme_of_assigned es x)

module _ {A S : Type 0} where
  pub put_in : (m n : HashMap (String A) TypeScheme S) (key name : List ℕ) (scheme : TypeScheme) (old : Assignment) → UpdatesBy string_eq (λ k. bytes_eq key (string_bytes k)) m n (Some scheme) → key ≡ name → assigned m.entries ≡ old
      → (x : List ℕ) → scheme_of (assigned n.entries) x ≡ (if bytes_eq name x then Some scheme else scheme_of old x)
  put_in m n key name scheme old updates named is x =
      sym (scheme_of_assigned n.entries x) ∙ hash_map_updates_text key m n (Some scheme) updates x ∙ ap (cond (bytes_eq key x) (Some scheme)) (scheme_of_assigned m.entries x ∙ ap (λ s. scheme_of s x) is) ∙
      ap (λ k. cond (bytes_eq k x) (Some scheme) (scheme_of old x)) named
