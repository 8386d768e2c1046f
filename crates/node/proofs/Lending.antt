-- Groups that are borrowed, by the numbers of their members.
use Rattle.std.proofs.Common.{◌≡◌, ◌∙◌, ℕ, zero, suc, ◌<◌, List, [], ◌∷◌, ◌++◌, Some, refl, ap, length}
use Rattle.std.specs.Prelude.{slice_get, All}
use Rattle.std.specs.Option.{option_to_list}
use Rattle.std.proofs.lemmas.List.Elements.{All-head, All-tail}
use Rattle.keys.specs.declared.key.Key.{Key}
use Rattle.node_table.specs.Tables.{key_at}
use Rattle.node_table.specs.Flats.{members_in}
use Rattle.node.specs.Records.{Records}
use Rattle.node.proofs.Numbering.{key_there}

-- as many members as numbers
pub members_length : (records : Records) (ns : List ℕ) → All (λ n. n < length records) ns → length (members_in records ns) ≡ length ns
members_length records [] a = refl
members_length records (n ∷ ns) a =
    let k = key_there records n (All-head (λ n. n < length records) n ns a) in
    let rest = members_length records ns (All-tail (λ n. n < length records) n ns a) in
    ap (λ o. length (option_to_list o ++ members_in records ns)) k.1 ∙ ap suc rest

-- the member at a place is the key with the number there
pub member_at : (records : Records) (ns : List ℕ) → All (λ n. n < length records) ns → (i n : ℕ) (k : Key) → slice_get ns i ≡ Some n → key_at records n ≡ Some k → slice_get (members_in records ns) i ≡ Some k
member_at records [] a i n k e h = cc
member_at records (m ∷ ns) a zero n k e h =
    let same : m ≡ n = cc in
    ap (λ o. slice_get (option_to_list o ++ members_in records ns) 0) (ap (key_at records) same ∙ h)
member_at records (m ∷ ns) a (suc i) n k e h =
    let j = key_there records m (All-head (λ n. n < length records) m ns a) in
    ap (λ o. slice_get (option_to_list o ++ members_in records ns) (suc i)) j.1 ∙ member_at records ns (All-tail (λ n. n < length records) m ns a) i n k e h
