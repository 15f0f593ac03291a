-- Keys of tables as variables. Only functions of this crate, of binding groups and of inference cite it.
use Rattle.std.specs.Prelude.{List, ℕ, Bool, true, false, ◌&&◌, Option, None, Some, option_map}
use Rattle.std.specs.Str.{bytes_eq}
use Rattle.std.specs.Borrow.{Bor}
use Rattle.std.specs.declared.hash.FoldHasher.{FoldHasher}
use Rattle.std.specs.declared.hash.BuildHasherDefault.{BuildHasherDefault}
use Rattle.indexmap.specs.IndexMap.{IndexMap, get_by}
use Rattle.hm_names_keys.specs.declared.lent_names.LentName.{LentName}
use Rattle.hm_names_keys.specs.Variables.{Variable}

abbrev pub variable_of_key : LentName → Variable
variable_of_key k = record { qualifier = option_map (λ (x : Bor (List ℕ)). x.now) k.qualifier; text = k.text.now }

abbrev pub same_qualifier : Option (List ℕ) → Option (List ℕ) → Bool
same_qualifier None None = true
same_qualifier None (Some y) = false
same_qualifier (Some x) None = false
same_qualifier (Some x) (Some y) = bytes_eq x y

abbrev pub same_variable : Variable → Variable → Bool
same_variable x y = same_qualifier x.qualifier y.qualifier && bytes_eq x.text y.text

-- a table of numbers by variable
abbrev pub Table : Type 0
Table = IndexMap LentName ℕ (BuildHasherDefault FoldHasher)

abbrev pub number_of : Table → Variable → Option ℕ
number_of table x = get_by (λ k. same_variable x (variable_of_key k)) table
