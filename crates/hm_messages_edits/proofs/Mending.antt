-- With the edits of a mend the source is the one in which the definition has a type.
use Rattle.std.proofs.Common.{◌≡◌, ◌≤◌, ℕ, List, [], ◌∷◌, ◌++◌, codes, take, drop, slice_range, refl, sym, ap, subst, ◌∙◌, append_assoc, arith}
use Rattle.std.proofs.lemmas.List.Folds.{drop_split}
use Rattle.hm_types.specs.Interfaces.{Exports as Interface}
use Rattle.hm_messages_changes.specs.Constructors.{with_constructor}
use Rattle.hm_messages_changes.specs.Holes.{IsPartOf}
use Rattle.hm_messages_changes.specs.Insertions.{with_insertion}
use Rattle.hm_messages_changes.specs.declared.data.SourceRange.{SourceRange}
use Rattle.hm_messages_changes.specs.declared.insertions.Insertion.{Insertion as Inserted}
use Rattle.hm_messages_changes.specs.declared.insertions.Insertion.TheVariants.{Brackets, ListBrackets, Argument, Semicolon, Comma}
use Rattle.hm_messages_trials.specs.TypedSources.{HasTypesIn}
use Rattle.hm_messages_trials.specs.declared.mends.Mend.TheVariants.{Expression, Pattern, Exchange, Removal, Sides, Patterns, Insertion, Wrapped}
use Rattle.hm_messages_edits.specs.Edits.{EditsMend, HasPartsIn, around, before, edited, edits_of, insertion_edits}

-- a text before a part is one before the part and no text after it
before_part : (source text : List ℕ) (part : SourceRange) → IsPartOf source part
    → take part.from source ++ (text ++ (slice_range source part.from part.to ++ ([] ++ drop part.to source))) ≡ edited source (before part text)
before_part source text part h =
    ap (λ (l : List ℕ). take part.from source ++ (text ++ l)) (sym (drop_split source part.from part.to (omega (arith, h.some))))

inserted : (source : List ℕ) (insertion : Inserted) (part : SourceRange) → IsPartOf source part → ¬ (insertion_edits insertion part ≡ []) → with_insertion source insertion part ≡ edited source (insertion_edits insertion part)
inserted source Brackets part h some = refl
inserted source ListBrackets part h some = refl
inserted source Argument part h some = absurd (some refl)
inserted source Semicolon part h some = before_part source (codes "; ") part h
inserted source Comma part h some = before_part source (codes ", ") part h

wrapped : (source name : List ℕ) (part : SourceRange) → with_constructor source name part ≡ edited source (around part (codes "(" ++ (name ++ codes " (")) (codes "))"))
wrapped source name part =
    let rest = slice_range source part.from part.to ++ (codes "))" ++ drop part.to source) in
    ap (λ (l : List ℕ). take part.from source ++ (codes "(" ++ l)) (sym (append_assoc name (codes " (") rest))

typed_by : (source changed name : List ℕ) (fs : List Interface) (definition : List ℕ) (others : List (List ℕ)) → changed ≡ source → HasTypesIn changed name fs (definition ∷ others) → (os : List (List ℕ)) × HasTypesIn source name fs (definition ∷ os)
typed_by source changed name fs definition others e h = (others, subst (λ (s : List ℕ). HasTypesIn s name fs (definition ∷ others)) e h)

pub edits_mend : EditsMend
edits_mend source name fs definition (Expression part) h some = absurd (some refl)
edits_mend source name fs definition (Pattern part) h some = absurd (some refl)
edits_mend source name fs definition (Exchange first second) h some = (h.others, h.types)
edits_mend source name fs definition (Removal part) h some = (h.others, h.types)
edits_mend source name fs definition (Sides first second) h some = (h.others, h.types)
edits_mend source name fs definition (Patterns first second) h some = (h.others, h.types)
edits_mend source name fs definition (Insertion insertion part) h some =
    typed_by (edited source (insertion_edits insertion part)) (with_insertion source insertion part) name fs definition h.others (inserted source insertion part h.part_of some) h.types
edits_mend source name fs definition (Wrapped constructor part) h some =
    typed_by (edited source (around part (codes "(" ++ (constructor.now ++ codes " (")) (codes "))"))) (with_constructor source constructor.now part) name fs definition h.others (wrapped source constructor.now part) h.types
