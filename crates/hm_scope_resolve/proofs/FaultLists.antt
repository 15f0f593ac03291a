-- The faults of a list, kind by kind.
use Rattle.std.proofs.Common.{◌≡◌, List, [], ◌∷◌, ◌++◌, None, length, sym, ap, ◌∙◌, map, arith, append-nil, append_assoc}
use Rattle.hm_syntax.specs.Lists.{declarations}
use Rattle.hm_syntax.specs.Trees.{Declarations}
use Rattle.hm_syntax.specs.declared.ast.Decl.{Decl}
use Rattle.hm_names.specs.declared.faults.Kind.TheVariants.{NoBinding, ClauseLength}
use Rattle.hm_names.specs.declared.faults.Fault.{Fault}
use Rattle.hm_names.specs.Variables.{texts, clause_names}
use Rattle.hm_names.specs.Faults.Lists.{type_names, constructor_names, binding_names, signed_names, other_lengths}
use Rattle.hm_names.specs.Faults.Phases.{fault}
use Rattle.hm_names.specs.Found.{outside, repeated, duplicates, list_faults}

pub all_faults : (ds : Declarations) (a b c d e f g : List Fault)
    → b ≡ a ++ duplicates (type_names ds) → c ≡ b ++ duplicates (constructor_names ds) → d ≡ c ++ duplicates (binding_names None ds) → e ≡ d ++ duplicates (signed_names ds)
    → f ≡ e ++ map (fault NoBinding) (outside (texts (clause_names ds)) (signed_names ds)) → g ≡ f ++ map (fault ClauseLength) (other_lengths None ds)
    → g ≡ a ++ list_faults ds
unfolding list_faults
all_faults ds a b c d e f g h1 h2 h3 h4 h5 h6 =
    nest a _ _ b g h1 (nest b _ _ c g h2 (nest c _ _ d g h3 (nest d _ _ e g h4 (nest e _ _ f g h5 h6))))
  where
    nest : (o x y p q : List Fault) → p ≡ o ++ x → q ≡ p ++ y → q ≡ o ++ (x ++ y)
    nest o x y p q s t = t ∙ ap (λ l. l ++ y) s ∙ append_assoc o x y

-- a list without declarations has none
pub no_faults : (ds : List Decl) (old : List Fault) → length ds ≡ 0 → old ≡ old ++ list_faults (declarations ds)
unfolding list_faults repeated outside
no_faults [] old none = sym (append-nil old)
no_faults (d ∷ ds) old none = absurd (omega arith)
