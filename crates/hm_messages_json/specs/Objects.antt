-- The JSON object of a message (RFC 8259): its members, in the order of their names.
use Rattle.std.specs.Prelude.{ℕ, List, Option, None, Some, ◌++◌, codes, map, option_map}
use Rattle.serde_json.specs.Written.{compact_text}
use Rattle.serde_json.specs.Data.{Data, array, boolean, null, number, unsigned, string, object, member, no_members, put}
use Rattle.serde_json.specs.View.{items_of}
use Rattle.hm_messages_json.specs.declared.message.Edit.{Edit}
use Rattle.hm_messages_json.specs.declared.message.Level.{Level}
use Rattle.hm_messages_json.specs.declared.message.Level.TheVariants.{Error, Note}
use Rattle.hm_messages_json.specs.declared.message.Message.{Message}
use Rattle.hm_messages_json.specs.declared.message.Position.{Position}
use Rattle.hm_messages_json.specs.declared.message.Range.{Range}

abbrev pub level_word : Level → List ℕ
level_word Error = codes "error"
level_word Note = codes "note"

abbrev pub count : ℕ → Data
count n = number (unsigned n)

abbrev pub text_data : Option (List ℕ) → Data
text_data None = null
text_data (Some text) = string text

abbrev pub position_data : Position → Data
position_data p = object (member (codes "byte") (count p.columns.bytes)
    (member (codes "character") (count p.columns.characters)
    (member (codes "line") (count p.line)
    (member (codes "utf16") (count p.columns.utf16) no_members))))

abbrev pub optional_data : Option Position → Data
optional_data None = null
optional_data (Some p) = position_data p

abbrev pub range_data : Range → Data
range_data r = object (member (codes "end") (position_data r.end) (member (codes "start") (position_data r.start) no_members))

abbrev pub optional_range : Option Range → Data
optional_range None = null
optional_range (Some r) = range_data r

-- a change of the source: its range, the text that comes there, and whether the checker accepted the changed source
abbrev pub edit_data : Edit → Data
edit_data e = object (member (codes "checked") (boolean e.is_checked)
    (member (codes "end") (position_data e.end)
    (member (codes "start") (position_data e.start)
    (member (codes "text") (string e.text.now) no_members))))

-- changes, in order
abbrev pub edits_data : List Edit → Data
edits_data es = array (items_of (map edit_data es))

-- the message's object without ranges, with the members that aren't texts or may be missing
abbrev pub joined_data : Message → Data → Data → Data → Data → Data → Data → Data → Data → Data → Data
joined_data m edits end expected hint owner name other start actual = object (member (codes "edits") edits
    (member (codes "end") end
    (member (codes "expected") expected
    (member (codes "file") (string m.file.now)
    (member (codes "hint") hint
    (member (codes "kind") (string m.kind.now)
    (member (codes "level") (string (level_word m.level))
    (member (codes "module") owner
    (member (codes "name") name
    (member (codes "other") other
    (member (codes "start") start
    (member (codes "text") (string m.text.now)
    (member (codes "type") actual no_members)))))))))))))

-- an object with two ranges among its members, in the order of their names
abbrev pub ranged : Data → Data → Data → Data
ranged (object members) part second = object (put (codes "second") second (put (codes "part") part members))
ranged other part second = other

abbrev pub message_data : Message → Data
message_data m = ranged
    (joined_data m (edits_data m.edits.now) (position_data m.end) (text_data (option_map (λ t. t.now) m.expected)) (text_data (option_map (λ t. t.now) m.hint))
    (text_data (option_map (λ t. t.now) m.module)) (text_data (option_map (λ t. t.now) m.name)) (optional_data m.other) (position_data m.start)
    (text_data (option_map (λ t. t.now) m.actual)))
    (optional_range m.part) (optional_range m.second)

-- the number of the format of these objects, which grows if a member changes its meaning
abbrev pub format : ℕ
format = 1

abbrev pub counts_data : ℕ → ℕ → Data
counts_data errors skipped = object (member (codes "errors") (count errors)
    (member (codes "format") (count format)
    (member (codes "level") (string (codes "end"))
    (member (codes "skipped") (count skipped) no_members))))

-- each object is on its own line
abbrev pub message_text : Message → List ℕ
message_text m = compact_text (message_data m) ++ codes "\n"

abbrev pub counts_text : ℕ → ℕ → List ℕ
counts_text errors skipped = compact_text (counts_data errors skipped) ++ codes "\n"
