-- Laws about the text of a script.
use Rattle.std.specs.Prelude.{◌≡◌, ◌<◌, ℕ, List, length}
use Rattle.feed_csv.specs.Records.{record_limit, records_of}
use Rattle.graph_types.specs.{Graph.{graph_in, IsContentIn}, Limits.AreLimits, declared.contents.Content.Content}
use Rattle.stream_store.specs.Configs.{ConfigView}
use Rattle.script_server.specs.Executions.{IsFullText}
use Rattle.script_commands.specs.States.{Progress, Setup, set_up}

-- a script has one text, and leaves one state
abbrev pub HasOneText : Type 0
HasOneText =
    (setup : Setup) (bytes : List ℕ) (text other : List ℕ) (there elsewhere : Progress)
    → IsFullText setup (records_of bytes) text there
    → IsFullText setup (records_of bytes) other elsewhere → (text ≡ other) × (there ≡ elsewhere)

-- a script of fewer records than the limit has a text: over each configuration, and where the store begins with a content
pub record HasSomeText : Type 0 where
  pub from_nothing : (config : ConfigView) (bytes : List ℕ) → AreLimits config.limits → length (records_of bytes) < record_limit
      → (text : List ℕ) × (there : Progress) × IsFullText (set_up config) (records_of bytes) text there
  pub from_content : (setup : Setup) (opening : Content) (bytes : List ℕ) → AreLimits setup.opening.limits
      → IsContentIn setup.opening.limits opening → graph_in setup.opening.limits opening ≡ setup.opening
      → length (records_of bytes) < record_limit
      → (text : List ℕ) × (there : Progress) × IsFullText setup (records_of bytes) text there
