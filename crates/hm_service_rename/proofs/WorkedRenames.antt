-- Worked examples of renames.
use Rattle.std.proofs.Common.{◌≡◌, ◌⊎◌, ℕ, List, [], ◌∷◌, ◌∙◌, ap, arith, codes, get_or, inl, inr, length, refl, rules, subst, sym}
use Rattle.std.specs.List.{Any}
use Rattle.hm_lex.specs.declared.token.Kind.{Kind}
use Rattle.hm_lex.specs.declared.token.Kind.TheVariants.{ConId, VarId, Word}
use Rattle.hm_lex.specs.declared.token.Token.{Token}
use Rattle.hm_service_rename.specs.Replaced.{AreReplaced}
use Rattle.hm_service_rename.specs.Renames.{HasUnread}
use Rattle.hm_service_rename.specs.Sets.{AreHeldAs}
use Rattle.hm_service_rename.specs.Spelling.{IsOneName}
use Rattle.hm_service_sources.specs.Standing.{IsUnreadable}
use Rattle.hm_service_rename.specs.Worked.{HeldRow, NamesRow, ReplacedRow, letter_at, token_of}
use Rattle.hm_uses_references.specs.declared.finding.Reference.{Reference}

not_outside : ¬ (AreReplaced [] (codes "z") (letter_at 0 1 ∷ []) [])
not_outside h = let z : 1 ≡ 0 = ap (λ (l : List Reference). length l) h.0 in absurd (omega (arith, z))

second : AreReplaced (codes "x" ∷ codes "y x" ∷ []) (codes "z") (letter_at 1 3 ∷ []) (codes "x" ∷ codes "y z" ∷ [])
second = (
  [],
  (
    letter_at 1 3 ∷ [],
    (
      codes "x" ∷ [],
      (
        codes "y z",
        (
          ([], ([], ([], (codes "x", ((refl, refl), (λ i d below. absurd (omega (arith, below)), (refl, (refl, refl)))))))),
          (
            λ k d below. (let z : k ≡ 0 = omega (arith, below) in subst (λ (j : ℕ). (get_or (letter_at 1 3 ∷ []) j d).source ≡ 1) (sym z) refl),
            ((2, ([], (omega arith, (record { place = refl; within = omega arith }, (refl, refl))))), (refl, refl)),
          ),
        ),
      ),
    ),
  ),
)

pub worked_replaced : ReplacedRow
worked_replaced = record { second = second; not_outside = not_outside }

not_one : ¬ (AreHeldAs (codes "x" ∷ []) [])
not_one h = let z : 0 ≡ 1 = ap (λ (l : List (List ℕ)). length l) h.texts_are in absurd (omega (arith, z))

pub worked_held : HeldRow
worked_held = record { none = record { texts_are = refl; standing = refl; read = search rules }; not_one = not_one }

-- the only token of a list
only_token : (size : ℕ) (t : Token) (h : IsOneName size (t ∷ [])) → h.token ≡ t
only_token size t h = sym (ap (λ (l : List Token). get_or l 0 t) h.one)

not_longer : ¬ (IsOneName 3 (token_of VarId ∷ []))
not_longer h = let z : 2 ≡ 3 = sym (ap (λ (t : Token). t.end) (only_token 3 (token_of VarId) h)) ∙ h.is.end in absurd (omega (arith, z))

no_name : (Word ≡ VarId) ⊎ (Word ≡ ConId) → ⊥
no_name (inl e) = cc
no_name (inr e) = cc

not_reserved : ¬ (IsOneName 2 (token_of Word ∷ []))
not_reserved h = no_name (subst (λ (t : Token). (t.kind ≡ VarId) ⊎ (t.kind ≡ ConId)) (only_token 2 (token_of Word) h) h.is.kind)

not_none : ¬ (IsOneName 0 [])
not_none h = let z : 0 ≡ 1 = ap (λ (l : List Token). length l) h.one in absurd (omega (arith, z))

never_unread : Any IsUnreadable [] → ⊥
never_unread (k, x, inside, is, p) = absurd (omega (arith, inside))

not_unread : ¬ (HasUnread [] (codes "z") [])
not_unread h = never_unread (subst (Any IsUnreadable) h.replaced.1 h.unread)

pub worked_names : NamesRow
worked_names = record {
  variable = record { token = token_of VarId; one = refl; is = record { start = refl; end = refl; kind = inl refl } };
  not_longer = not_longer;
  not_reserved = not_reserved;
  not_none = not_none;
  not_unread = not_unread;
}
