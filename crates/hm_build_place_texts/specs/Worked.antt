-- Worked examples: the texts of a place with a name, of one in a skipped module, and of one without a name.
use Rattle.std.specs.Prelude.{◌≡◌, List, [], ◌∷◌, ◌++◌, None, Some, codes}
use Rattle.serde_json.specs.Data.{null, string, object, member, no_members}
use Rattle.hm_messages_json.specs.Objects.{count, position_data}
use Rattle.hm_messages_json.specs.declared.message.Position.{Position}
use Rattle.hm_uses.specs.declared.name_kind.NameKind.TheVariants.{Constructor, Variable}
use Rattle.hm_build_place_texts.specs.Facts.{Binding, Facts, Item, NameFacts, at_site, in_module, in_skipped, is_unbound, a_name, no_declared, no_type, not_exported, not_found, of_local, of_use, principal}
use Rattle.hm_build_place_texts.specs.Objects.{binding_data, items_data, name_data, place_data, untyped_in}
use Rattle.hm_build_place_texts.specs.Prose.{name_text, not_found_text, nothing_text, prose, spot_text}

-- line 1, after a letter of two bytes
abbrev pub second : Position
second = record { line = 1; columns = record { bytes = 3; characters = 2; utf16 = 2 } }

abbrev pub in_b : Binding
in_b = at_site (record { file = codes "b.hs"; position = Some second })

-- a use of the variable M.x in the definition of y
abbrev pub x : NameFacts
x = record {
  kind = Variable;
  text = codes "M.x";
  range = Some (record { start = second; end = second });
  binding = in_b;
  declared = principal (codes "a -> a");
  here = of_use (record { text = codes "Int -> Int"; owner = Some (record { name = codes "y"; own = codes "Int" }) });
}

-- a local variable whose type isn't found
abbrev pub local : NameFacts
local = record { kind = Variable; text = codes "x"; range = None; binding = in_b; declared = no_declared; here = not_found }

-- a constructor that nothing binds
abbrev pub nowhere : NameFacts
nowhere = record { kind = Constructor; text = codes "C"; range = None; binding = is_unbound; declared = no_declared; here = no_type }

-- line 1, column 5 of a.hs
abbrev pub at : List Item → Facts
at items = record { file = codes "a.hs"; line = 1; column = 5; items = items }

-- columns count characters. Two names are one after the other
pub record ProseRow : Type 0 where
  pub used : name_text x ≡ codes "variable M.x\n  bound at " ++ (spot_text (codes "b.hs") 1 2 ++ codes "\n  type a -> a\n  here Int -> Int\n  in y :: Int\n")
  pub bare : name_text nowhere ≡ codes "constructor C\n  bound nowhere\n"
  pub both : prose (at (a_name local ∷ a_name nowhere ∷ [])) ≡ name_text local ++ (name_text nowhere ++ [])
  pub skipped : prose (at (in_skipped (codes "M") ∷ [])) ≡ codes "a name in module M, which is skipped\n"
  pub nothing : prose (at []) ≡ nothing_text (codes "a.hs") 1 5
  pub not_empty : ¬ (prose (at []) ≡ [])

-- a place without a name has an object with the sentence for readers, and not an empty one
pub record NothingRow : Type 0 where
  pub nothing : place_data (at []) ≡ object (member (codes "column") (count 5)
      (member (codes "file") (string (codes "a.hs"))
      (member (codes "format") (count 1)
      (member (codes "kind") (string (codes "place"))
      (member (codes "line") (count 1)
      (member (codes "names") (items_data [])
      (member (codes "text") (string (nothing_text (codes "a.hs") 1 5)) no_members)))))))
  pub not_empty : ¬ (place_data (at []) ≡ object no_members)

-- a place has its three columns, and a module that isn't one of the sources has none
pub record BindingRow : Type 0 where
  pub site : binding_data in_b ≡ object (member (codes "file") (string (codes "b.hs"))
      (member (codes "module") null
      (member (codes "position") (position_data second)
      (member (codes "text") (string (codes "bound at " ++ spot_text (codes "b.hs") 1 2)) no_members))))
  pub elsewhere : binding_data (in_module (codes "Prelude")) ≡ object (member (codes "file") null
      (member (codes "module") (string (codes "Prelude"))
      (member (codes "position") null
      (member (codes "text") (string (codes "bound in Prelude")) no_members))))
  pub not_bound : ¬ (binding_data is_unbound ≡ binding_data (in_module (codes "Prelude")))

-- the type of a use and the principal type are two members. A type that isn't found is neither
pub record TypesRow : Type 0 where
  pub bare : name_data nowhere ≡ object (member (codes "bound") (binding_data is_unbound)
      (member (codes "definition") null
      (member (codes "here") null
      (member (codes "kind") (string (codes "constructor"))
      (member (codes "name") (string (codes "C"))
      (member (codes "range") null
      (member (codes "type") null
      (member (codes "untyped") null no_members))))))))
  pub typed : untyped_in x.declared x.here ≡ None
  pub unfound : untyped_in no_declared not_found ≡ Some not_found_text
  pub hidden : untyped_in (not_exported (codes "A")) no_type ≡ Some (codes "no type: module A doesn't export it")
  pub not_unfound : ¬ (untyped_in no_declared (of_local (record { text = codes "Int"; owner = None })) ≡ Some not_found_text)
