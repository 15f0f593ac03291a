-- The grammar of the part of a module before its declarations.
use Rattle.std.specs.Prelude.{◌≡◌, List, ◌∷◌, Bool, true, false, Option, None, Some, codes}
use Rattle.hm_syntax.specs.Names.{Identifier}
use Rattle.hm_syntax.specs.declared.ast.Export.{Export}
use Rattle.hm_syntax.specs.declared.ast.Export.TheVariants as exports
use Rattle.hm_syntax.specs.declared.ast.SubItems.{SubItems}
use Rattle.hm_syntax.specs.declared.ast.SubItems.TheVariants as subs
use Rattle.hm_syntax.specs.declared.ast.Import.{Import}
use Rattle.hm_syntax.specs.declared.ast.ImportList.{ImportList}
use Rattle.hm_syntax.specs.declared.ast.ImportList.TheVariants as lists
use Rattle.hm_syntax.specs.declared.ast.ImportItem.{ImportItem}
use Rattle.hm_syntax.specs.declared.ast.ImportItem.TheVariants as items
use Rattle.hm_parse_grammar.specs.declared.symbol.Symbol.TheVariants.{Dots, Open, Close, Import as ImportWord, Module as ModuleWord, Var, Con}
use Rattle.hm_parse_grammar.specs.Tokens.{Terminal, name_of, modid_of}
use Rattle.hm_parse_grammar.specs.Grammar.Marks.{IsQvar, IsQcon, IsWord, Row, Listed}

-- con
pub data ConName : Identifier → List Terminal → List Terminal → Type 0 where
  con_name : {k : Terminal} {rest : List Terminal} → k.symbol ≡ Con → ConName (name_of k) (k ∷ rest) rest

-- [subs], where subs = '(' '..' ')' | '(' [con {',' con}*] ')'
pub data MaySubs : SubItems → List Terminal → List Terminal → Type 0 where
  no_subs : {ts : List Terminal} → MaySubs subs.None ts ts
  subs_all : {k d m : Terminal} {rest : List Terminal} → k.symbol ≡ Open → d.symbol ≡ Dots → m.symbol ≡ Close → MaySubs subs.All (k ∷ d ∷ m ∷ rest) rest
  subs_some : {ns : List Identifier} {k m : Terminal} {us rest : List Terminal} →
      k.symbol ≡ Open → Row ConName ns us (m ∷ rest) → m.symbol ≡ Close → MaySubs (subs.Some ns) (k ∷ us) rest

-- export = qvar | qtycon [subs] | 'module' modid
pub data Export' : Export → List Terminal → List Terminal → Type 0 where
  export_var : {k : Terminal} {rest : List Terminal} → IsQvar k → Export' (exports.Var (name_of k)) (k ∷ rest) rest
  export_con : {s : SubItems} {k : Terminal} {us rest : List Terminal} → IsQcon k → MaySubs s us rest → Export' (exports.Con (name_of k) s) (k ∷ us) rest
  export_whole : {k n : Terminal} {rest : List Terminal} → k.symbol ≡ ModuleWord → IsQcon n → Export' (exports.Whole (modid_of n)) (k ∷ n ∷ rest) rest

-- [exports], where exports = '(' [export {',' export}*] [','] ')'
pub data MayExports : Option (List Export) → List Terminal → List Terminal → Type 0 where
  no_exports : {ts : List Terminal} → MayExports None ts ts
  some_exports : {es : List Export} {ts rest : List Terminal} → Listed Export' es ts rest → MayExports (Some es) ts rest

-- item = var | tycon [subs]
-- After hiding, a tycon without a list may be a con. Both are spelled alike, and have the same tree.
pub data Item' : ImportItem → List Terminal → List Terminal → Type 0 where
  item_var : {k : Terminal} {rest : List Terminal} → k.symbol ≡ Var → Item' (items.Var (name_of k)) (k ∷ rest) rest
  item_con : {s : SubItems} {k : Terminal} {us rest : List Terminal} → k.symbol ≡ Con → MaySubs s us rest → Item' (items.Con (name_of k) s) (k ∷ us) rest

-- ['qualified']
pub data MayQualified : Bool → List Terminal → List Terminal → Type 0 where
  not_qualified : {ts : List Terminal} → MayQualified false ts ts
  qualified : {k : Terminal} {rest : List Terminal} → IsWord (codes "qualified") k → MayQualified true (k ∷ rest) rest

-- ['as' modid]
pub data MayAlias : Option Identifier → List Terminal → List Terminal → Type 0 where
  no_alias : {ts : List Terminal} → MayAlias None ts ts
  alias : {k n : Terminal} {rest : List Terminal} → IsWord (codes "as") k → IsQcon n → MayAlias (Some (modid_of n)) (k ∷ n ∷ rest) rest

-- [['hiding'] '(' [item {',' item}*] [','] ')']
pub data MayList : ImportList → List Terminal → List Terminal → Type 0 where
  every : {ts : List Terminal} → MayList lists.Every ts ts
  only : {is : List ImportItem} {ts rest : List Terminal} → Listed Item' is ts rest → MayList (lists.Only is) ts rest
  hiding : {is : List ImportItem} {k : Terminal} {us rest : List Terminal} → IsWord (codes "hiding") k → Listed Item' is us rest → MayList (lists.Hiding is) (k ∷ us) rest

-- import = 'import' ['qualified'] modid ['as' modid] [['hiding'] '(' [item {',' item}*] [','] ')']
pub data Import' : Import → List Terminal → List Terminal → Type 0 where
  import : {q : Bool} {a : Option Identifier} {l : ImportList} {k n : Terminal} {us vs ws rest : List Terminal} →
      k.symbol ≡ ImportWord → MayQualified q us (n ∷ vs) → IsQcon n → MayAlias a vs ws → MayList l ws rest →
      Import' (record { qualified = q; name = modid_of n; alias = a; list = l }) (k ∷ us) rest
