-- What a writer takes of a value: its tokens.
use Rattle.std.specs.Prelude.{List}
use Rattle.json.specs.Token.{Token}
use Rattle.json.specs.Tree.{json_tokens, items_tokens, members_tokens}
use Rattle.serde_json.specs.Data.{Data, Members}
use Rattle.serde_json.specs.View.{items_of}
use Rattle.serde_json.specs.Written.{outline, items_outline, members_outline}

-- the tokens of a value
abbrev pub tokens_of : Data → List Token
tokens_of d = json_tokens (outline d)

-- the tokens of the rest of an array, with its end
abbrev pub rest_of : List Data → List Token
rest_of ds = items_tokens (items_outline (items_of ds))

-- the tokens of the rest of an object, with its end
abbrev pub members_rest : Members → List Token
members_rest ms = members_tokens (members_outline ms)
