use Rattle.std.proofs.Common.{◌≡◌, ◌++◌, drop, map}
use Rattle.loader_replies.specs.Tokens.{tokens_of, rest_of}
use Rattle.loader_events.specs.Lines.{key_data, keys_data}
use Rattle.loader_events.proofs.run_json.write_keys.Given as goal

abbrev pub invariant-loop-key : goal.invariant-loop-key
invariant-loop-key l = l.out ++ rest_of (map key_data (drop l.key-index l.keys)) ≡ l.fn.out ++ tokens_of (keys_data l.keys)
