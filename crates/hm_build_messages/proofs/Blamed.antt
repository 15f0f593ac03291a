-- The imports that a module is skipped for.
use Rattle.std.proofs.Common.{◌≡◌, ℕ, zero, suc, ◌+◌, ◌<◌, All, IfSome, List, [], ◌∷◌, ◌++◌, Option, None, Some, ap, arith, length, map, take, get_or, refl, sym, subst, ◌∙◌, append-nil}
use Rattle.std.specs.Prelude.{Contains, option_to_list}
use Rattle.std.proofs.lemmas.List.{take_more}
use Rattle.std.proofs.lemmas.List.Concat.{flat_map-append}
use Rattle.std.proofs.lemmas.List.Elements.{All-append}
use Rattle.hm_build_reports.specs.ReportBlocks.{all_blamed, blamed}
use Rattle.hm_lex.specs.declared.token.Place.{Place}
use Rattle.hm_syntax.specs.declared.ast.Import.{Import}
use Rattle.hm_syntax.specs.declared.ast.Module.{Module}
use Rattle.hm_verdicts.specs.Sets.{no_module}
use Rattle.hm_verdicts.specs.Verdicts.{Status}
use Rattle.hm_build_messages.specs.Explanations.{IsBlamedBy, IsStatedBy, blamed_of}
use Rattle.hm_build_messages.specs.declared.explaining.Blame.{Blame}

pub named_through : (bs : List Blame) → map (λ b. b.name) (map blamed_of bs) ≡ map (λ (b : Blame). b.name.now) bs
named_through [] = refl
named_through (b ∷ bs) = ap (λ ns. b.name.now ∷ ns) (named_through bs)

one : {X : Type 0} (P : X → Type 0) (x : X) → P x → All P (x ∷ [])
one P x h zero d l = h
one P x h (suc k) d l = absurd (omega arith)

of_option : {X : Type 0} (P : X → Type 0) (o : Option X) → IfSome o P → All P (option_to_list o)
of_option P None h = λ k d l. absurd (omega arith)
of_option P (Some x) h = one P x h

pub all_more : {X : Type 0} (P : X → Type 0) (xs : List X) (o : Option X) → All P xs → IfSome o P → All P (xs ++ option_to_list o)
all_more P xs o h s = All-append P xs (option_to_list o) h (of_option P o s)

-- an import of which one of the modules in the row has the name
pub blamed_here : (modules : List Module) (status : ℕ → Status) (row : List ℕ) (imports : List Import) (o : Option Blame) (import : Import) (j : ℕ) (name : List ℕ) (place : Place)
    → Contains imports import → import.name.text ≡ name → place ≡ record { line = import.name.line; column = import.name.column } → Contains row j → (get_or modules j no_module).header.name.text ≡ name
    → IfSome o (λ b. b.name.now ≡ name) → IfSome o (λ b. b.place ≡ place) → IfSome o (λ b. IsStatedBy (status j) name (blamed_of b).subject) → IfSome o (λ b. IsBlamedBy modules status row imports (blamed_of b))
blamed_here modules status row imports None import j name place written called placed imported named n p t = n
blamed_here modules status row imports (Some b) import j name place written called placed imported named n p t = record {
  import = import;
  written = written;
  called = called ∙ sym n;
  placed = p ∙ placed;
  number = j;
  imported = imported;
  named = named ∙ sym n;
  stated = subst (λ (x : List ℕ). IsStatedBy (status j) x (blamed_of b).subject) (sym n) t;
}

-- an element of a list doesn't go by what a longer list would have
pub same_read : {X : Type 0} (xs : List X) (k : ℕ) (d e : X) → k < length xs → get_or xs k d ≡ get_or xs k e
same_read [] k d e l = absurd (omega arith)
same_read (x ∷ xs) zero d e l = refl
same_read (x ∷ xs) (suc k) d e l = same_read xs k d e (omega (arith, l))

-- the names of a row, one more at the end
pub row_more : (modules : List Module) (status : ℕ → Status) (row : List ℕ) (i : ℕ) (d : ℕ) → i < length row
    → all_blamed modules status (take (i + 1) row) ≡ all_blamed modules status (take i row) ++ blamed (status (get_or row i d)) (get_or modules (get_or row i d) no_module).header.name.text
row_more modules status row i d within =
    ap (all_blamed modules status) (take_more row i d within) ∙ (flat_map-append (λ j. blamed (status j) (get_or modules j no_module).header.name.text) (take i row) (get_or row i d ∷ [])
    ∙ ap (λ l. all_blamed modules status (take i row) ++ l) (append-nil (blamed (status (get_or row i d)) (get_or modules (get_or row i d) no_module).header.name.text)))
