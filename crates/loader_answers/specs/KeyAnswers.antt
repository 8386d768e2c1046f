-- The reply for the known value of a key, or nothing if it has none.
use Rattle.std.specs.Prelude.{Option, Some, None}
use Rattle.serde_json.specs.Data.{Data, null}
use Rattle.keys.specs.Keys.{name_of}
use Rattle.keys.specs.declared.key.Key.{Key}
use Rattle.keys.specs.declared.value.Value.{Value}
use Rattle.loader_answers.specs.Answers.{package_shown, module_shown}

abbrev pub package_reply : Key → Option Value → Data
package_reply k None = null
package_reply k (Some v) = package_shown (name_of k) v

abbrev pub module_reply : Option Value → Data
module_reply None = null
module_reply (Some v) = module_shown v
