-- The names that a declaration declares, one after another.
use Rattle.std.proofs.Common.{◌≡◌, List, [], ◌∷◌, ◌++◌, Bor, map, refl, sym, ap, ◌∙◌, append_assoc}
use Rattle.hm_names.specs.Entities.{constructor_list, constructor_name}
use Rattle.hm_syntax.specs.Lists.{constructors}
use Rattle.hm_syntax.specs.Names.{Identifier}
use Rattle.hm_syntax.specs.Trees.{DataConstructor, Declaration, data_declaration}
use Rattle.hm_uses_symbols.specs.Symbols.{SymbolOf, declared_by, symbol}
use Rattle.hm_uses_symbols.specs.declared.symbol.SymbolKind.TheVariants.{Constructor, DataType, Variable}

listed : (cs : List DataConstructor) → constructor_list (constructors cs) ≡ cs
listed [] = refl
listed (c ∷ cs) = ap (λ (l : List DataConstructor). c ∷ l) (listed cs)

pub data_declared : (start before after : List SymbolOf) (s : SymbolOf) (n : Identifier) (ps : List Identifier) (row cs : List DataConstructor) (d : Declaration) → d ≡ data_declaration n ps (constructors cs) → s ≡ symbol DataType n
    → before ≡ start ++ s ∷ [] → after ≡ before ++ map (λ c. symbol Constructor (constructor_name c)) row → row ≡ cs → after ≡ start ++ declared_by d
data_declared start before after s n ps row cs d is named pushed added same =
    let make : DataConstructor → SymbolOf = λ c. symbol Constructor (constructor_name c) in
    added ∙ ap (λ (l : List SymbolOf). l ++ map make row) pushed ∙ append_assoc start (s ∷ []) (map make row)
    ∙ ap (λ (t : SymbolOf). start ++ t ∷ map make row) named ∙ ap (λ (l : List DataConstructor). start ++ symbol DataType n ∷ map make l) (same ∙ sym (listed cs))
    ∙ ap (λ (e : Declaration). start ++ declared_by e) (sym is)

lent_names : (row : List (Bor Identifier)) → map (λ n. symbol Variable n.now) row ≡ map (symbol Variable) (map (λ n. n.now) row)
lent_names [] = refl
lent_names (n ∷ ns) = ap (λ (l : List SymbolOf). symbol Variable n.now ∷ l) (lent_names ns)

pub matched : (start after : List SymbolOf) (row : List (Bor Identifier)) (names none all : List Identifier) → after ≡ start ++ map (λ n. symbol Variable n.now) row → map (λ n. n.now) row ≡ names → names ≡ none ++ all → none ≡ [] → after ≡ start ++ map (symbol Variable) all
matched start after row names none all added same are empty =
    added ∙ ap (λ (l : List SymbolOf). start ++ l) (lent_names row) ∙ ap (λ (l : List Identifier). start ++ map (symbol Variable) l) (same ∙ are ∙ ap (λ (l : List Identifier). l ++ all) empty)
