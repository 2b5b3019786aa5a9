-- The bytes of a store: a compact JSON text (RFC 8259), and a trailer with its hash.
use Rattle.std.specs.Prelude.{ℕ, codes, List, [], ◌∷◌, ◌++◌, map}
use Rattle.hex.specs.Hex.{encode_lower}
use Rattle.serde_json.specs.Data.{Data, object, member, no_members}
use Rattle.serde_json.specs.Written.{compact_text}
use Rattle.sha2.specs.Sha256.{sha256}
use Rattle.claim_core.specs.Views.{Solution}
use Rattle.flow_json.specs.Forms.{count_data, tuple}
use Rattle.summary_json.specs.Answers.{answer_data}
use Rattle.summary_json.specs.Keys.{key_data}

-- an entry: `{"answer":A,"key":K}`; the answer's mark `stored` is not written
abbrev pub entry_object : Data → Data → Data
entry_object answer key = object (member (codes "answer") answer (member (codes "key") key no_members))

abbrev pub entry_data : Solution → Data
entry_data entry = entry_object (answer_data entry.key entry.answer) (key_data entry.key)

-- the number of the format
abbrev pub format_number : ℕ
format_number = 1

-- a store's JSON: `{"entries":[..],"format":1}`
abbrev pub store_object : List Data → Data
store_object entries = object (member (codes "entries") (tuple entries) (member (codes "format") (count_data format_number) no_members))

abbrev pub store_data : List Solution → Data
store_data entries = store_object (map entry_data entries)

-- the trailer of a text: a line feed, its SHA-256 (FIPS 180-4, section 6.2) as 64 lower-case hexadecimal digits, a line feed
abbrev pub trailer_of : List ℕ → List ℕ
trailer_of text = 10 ∷ (encode_lower (sha256 text) ++ 10 ∷ [])

-- a text with its trailer behind it
abbrev pub with_trailer : List ℕ → List ℕ
with_trailer text = text ++ trailer_of text

-- THE BYTES OF A STORE
abbrev pub store_text : List Solution → List ℕ
store_text entries = with_trailer (compact_text (store_data entries))
