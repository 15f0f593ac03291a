-- The uses of a whole module.
use Rattle.std.proofs.Common.{◌≡◌, List, [], ◌++◌, All, sym, ap, ◌∙◌, subst, append_assoc}
use Rattle.std.specs.Prelude.{true}
use Rattle.std.proofs.lemmas.List.{map-append}
use Rattle.std.proofs.lemmas.List.Elements.{All-append, All-nil}
use Rattle.hm_types.specs.Interfaces.{Exports as Interface}
use Rattle.hm_syntax.specs.Lists.{declarations}
use Rattle.hm_syntax.specs.declared.ast.Module.{Module}
use Rattle.hm_uses.specs.declared.name_kind.NameKind.TheVariants.{ModuleName}
use Rattle.hm_uses.specs.Mentions.{Mention, mention, export_list_mentions, imports_mentions, declarations_mentions, names_of}
use Rattle.hm_uses.specs.Uses.{IsUse, UseOf}
use Rattle.hm_uses_header.specs.Adding.{header_mentions}
use Rattle.hm_uses_header.proofs.Steps.{mentioned}

pub all_names : (us vs : List UseOf) (ms : List Mention) → us ≡ [] → mentioned vs ≡ mentioned us ++ ms → mentioned vs ≡ ms
all_names us vs ms none names = names ∙ ap (λ l. mentioned l ++ ms) none

pub none_yet : (m : Module) (fs : List Interface) (us : List UseOf) → us ≡ [] → All (IsUse m fs) us
none_yet m fs us none = subst (All (IsUse m fs)) (sym none) (All-nil (IsUse m fs))

module _ (m : Module) (us vs ws : List UseOf) (is : ws ≡ us ++ vs) where
  pub whole_names : mentioned us ≡ header_mentions m.header → mentioned vs ≡ declarations_mentions (declarations m.decls) → mentioned ws ≡ names_of m
  whole_names h d =
      ap mentioned is ∙ (map-append (λ (u : UseOf). u.mention) us vs ∙ (ap (λ l. l ++ mentioned vs) h ∙ (ap (λ l. header_mentions m.header ++ l) d
      ∙ ap (λ l. mention ModuleName true m.header.name ++ l) (append_assoc (export_list_mentions m.header.exports) (imports_mentions m.header.imports) (declarations_mentions (declarations m.decls))))))

  pub whole_meanings : (fs : List Interface) → All (IsUse m fs) us → All (IsUse m fs) vs → All (IsUse m fs) ws
  whole_meanings fs a b = subst (All (IsUse m fs)) (sym is) (All-append (IsUse m fs) us vs a b)
