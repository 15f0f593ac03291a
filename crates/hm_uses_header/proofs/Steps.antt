-- Uses that are added to others.
use Rattle.std.proofs.Common.{◌≡◌, ℕ, ◌+◌, ◌<◌, ◌≤◌, Bool, List, [], ◌∷◌, ◌++◌, map, All, drop, length, get_or, refl, sym, ap, ◌∙◌, subst, append_assoc}
use Rattle.std.proofs.lemmas.List.{map-append}
use Rattle.std.proofs.lemmas.List.Elements.{All-push}
use Rattle.hm_types.specs.Interfaces.{Exports as Interface}
use Rattle.hm_syntax.specs.Names.{Identifier}
use Rattle.hm_syntax.specs.declared.ast.Module.{Module}
use Rattle.hm_names.proofs.Rows.{unrolled, past}
use Rattle.hm_uses.specs.declared.name_kind.NameKind.{NameKind}
use Rattle.hm_uses.specs.Mentions.{Mention, mention}
use Rattle.hm_uses.specs.Uses.{IsUse, Sense, Stands, UseOf}
use Rattle.hm_uses.specs.Found.{use_as}
use Rattle.hm_uses_header.specs.Adding.{Adds, Leaves}

abbrev pub mentioned : List UseOf → List Mention
mentioned us = map (λ (u : UseOf). u.mention) us

nothing_behind : {X : Type 0} (xs : List X) → xs ++ [] ≡ xs
nothing_behind [] = refl
nothing_behind (x ∷ xs) = ap (λ ys. x ∷ ys) (nothing_behind xs)

module _ (P : Module → List Interface → Type 0) where
  pub adds_nothing : (us : List UseOf) → Adds us us [] P
  adds_nothing us = record { names = sym (nothing_behind (mentioned us)); meanings = λ m fs p a. a }

  pub adds_one : (us vs : List UseOf) (k : NameKind) (b : Bool) (n : Identifier) (t : Sense) → vs ≡ us ++ use_as k b n t → ((m : Module) (fs : List Interface) → P m fs → Stands m fs n k b t) → Adds us vs (mention k b n) P
  adds_one us vs k b n t is stands = record {
    names = ap mentioned is ∙ map-append (λ (u : UseOf). u.mention) us (use_as k b n t);
    meanings = λ m fs p a. subst (All (IsUse m fs)) (sym is) (All-push (IsUse m fs) us (record { mention = record { name = n; kind = k; binds = b }; sense = t }) a (stands m fs p));
  }

  pub adds_both : (us vs ws : List UseOf) (xs ys : List Mention) → Adds us vs xs P → Adds vs ws ys P → Adds us ws (xs ++ ys) P
  adds_both us vs ws xs ys a b = record {
    names = b.names ∙ (ap (λ l. l ++ ys) a.names ∙ append_assoc (mentioned us) xs ys);
    meanings = λ m fs p h. b.meanings m fs p (a.meanings m fs p h);
  }

  pub adds_under : (Q : Module → List Interface → Type 0) (us vs : List UseOf) (xs : List Mention) → ((m : Module) (fs : List Interface) → P m fs → Q m fs) → Adds us vs xs Q → Adds us vs xs P
  adds_under Q us vs xs f a = record { names = a.names; meanings = λ m fs p h. a.meanings m fs (f m fs p) h }

  -- rows
  module _ {X : Type 0} (f : X → List Mention) (all : List X → List Mention) (opens : (x : X) (rest : List X) → all (x ∷ rest) ≡ f x ++ all rest) (empty : all [] ≡ []) where
    pub row_none : (us : List UseOf) (xs : List X) → Leaves us us (all (drop 0 xs)) (all xs) P
    row_none us [] = record { names = refl; meanings = λ m fs p a. a }
    row_none us (x ∷ xs) = record { names = refl; meanings = λ m fs p a. a }

    pub row_more : (us vs ws : List UseOf) (xs : List X) (i : ℕ) (x : X) → i < length xs → x ≡ get_or xs i x → Leaves us vs (all (drop i xs)) (all xs) P → Adds vs ws (f x) P → Leaves us ws (all (drop (i + 1) xs)) (all xs) P
    row_more us vs ws xs i x h e before one =
        let rest : List Mention = all (drop (i + 1) xs) in
        record {
          names = ap (λ l. l ++ rest) one.names ∙ (append_assoc (mentioned vs) (f x) rest ∙ (ap (λ l. mentioned vs ++ l) (sym (ap all (unrolled xs i x h e) ∙ opens x (drop (i + 1) xs))) ∙ before.names));
          meanings = λ m fs p a. one.meanings m fs p (before.meanings m fs p a);
        }

    pub row_all : (us vs : List UseOf) (xs : List X) (i : ℕ) → length xs ≤ i → Leaves us vs (all (drop i xs)) (all xs) P → Adds us vs (all xs) P
    row_all us vs xs i h before = record {
      names = sym (nothing_behind (mentioned vs)) ∙ (ap (λ l. mentioned vs ++ l) (sym (ap all (past xs i h) ∙ empty)) ∙ before.names);
      meanings = before.meanings;
    }
