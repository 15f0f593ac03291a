-- The folders that a client opens, and the sources that it lists (Language Server Protocol 3.17, "Initialize Request": `workspaceFolders`, `rootUri` and `initializationOptions`).
use Rattle.std.specs.Prelude.{◌≡◌, ◌++◌, ℕ, List, [], Option, None, Some, codes, map, option_and_then, option_map, option_to_list, string_bytes}
use Rattle.serde_json.specs.Data.{Data, Items, item, no_items}
use Rattle.serde_json.specs.Find.{as_array, as_str, get, pointer}
use Rattle.hm_lsp_session.specs.Params.{string_at, uris_in}
use Rattle.hm_lsp_session.specs.Replies.{method_of}
use Rattle.hm_lsp_session.specs.Stages.{method_named}
use Rattle.hm_lsp_session.specs.declared.folders.Opened.{Opened}
use Rattle.hm_lsp_session.specs.declared.stages.Method.TheVariants.{Initialize}

-- the URIs of the list of folders, if the parameters have one
abbrev pub listed_folders : Data → Option (List (List ℕ))
listed_folders params = option_map uris_in (option_and_then as_array (get (codes "workspaceFolders") params))

-- those of a list, or else the root of a client that has no list
abbrev pub listed_or_root : Option (List (List ℕ)) → Data → List (List ℕ)
listed_or_root (Some uris) params = uris
listed_or_root None params = option_to_list (string_at (codes "/rootUri") params)

-- the URIs of the folders. Without parameters there are none
abbrev pub folders_in : Option Data → List (List ℕ)
folders_in None = []
folders_in (Some params) = listed_or_root (listed_folders params) params

-- the texts of these, in order. One that is no text is left out
abbrev pub texts_in : Items → List (List ℕ)
texts_in no_items = []
texts_in (item d ds) = option_to_list (as_str d) ++ texts_in ds

-- the names of the sources, if the options of the client have a list of them
abbrev pub sources_in : Option Data → Option (List (List ℕ))
sources_in None = None
sources_in (Some params) = option_map texts_in (option_and_then as_array (pointer (codes "/initializationOptions/sources") params))

-- the message is a request `initialize` with this identifier
pub record IsOpening (message id : Data) : Type 0 where
  pub name : List ℕ
  pub named : method_of message ≡ Some name
  pub is : method_named name ≡ Initialize
  pub has : get (codes "id") message ≡ Some id

-- it opens these folders and lists these sources
pub record IsOpened (message : Data) (opened : Opened) : Type 0 where
  pub opening : (id : Data) × IsOpening message id
  pub folders : map string_bytes opened.folders.items ≡ folders_in (get (codes "params") message)
  pub sources : option_map (λ names. map string_bytes names.items) opened.sources ≡ sources_in (get (codes "params") message)
