-- What a site tells once its links come back.
use Rattle.std.proofs.Common.{◌≡◌, ℕ, suc, List, [], ◌∷◌, ◌++◌, refl, ap, sym, ◌∙◌, subst, arith, length, get_or, All, ◌⊎◌, inl, inr}
use Rattle.std.proofs.lemmas.Bool.{false≢true, true≢false}
use Rattle.std.proofs.lemmas.List.Elements.{All-cons, All-nil}
use Rattle.wire_forms.specs.Packet.{packets}
use Rattle.my_packets.proofs.Packets.{packets_length}
use Rattle.server_data.specs.Fold.{change_db, has_object, may_make}
use Rattle.server_data.specs.History.{Interleaves, IsPrefix, TakesHead, here, none_left, takes, there}
use Rattle.server_data.specs.declared.data.Change.{Change}
use Rattle.server_data.specs.declared.data.Change.TheVariants.{Put}
use Rattle.server_data.specs.declared.data.Transaction.{Transaction}
use Rattle.sql_cells.specs.declared.cell.Cell.TheVariants.{Value}
use Rattle.honest_server.specs.State.{State}
use Rattle.honest_server.specs.WellFormed.{IsSound, IsWellFormed}
use Rattle.honest_server.specs.Site.{ServedSite}
use Rattle.honest_examples.specs.Sites.{AGrantComesFirst, AGreetingIsOfItsServer, ANewLinkHasSeenTheHistory, ANewLinkIsGreeted, ConnectingLeavesTheHistory, GrantsArePrefixesOfOneList, LinksPutDifferentKeys, TheHistoryIsToldOnceAllAreBack, of_both, puts_five, puts_four, puts_three, greeting_packet}
use Rattle.honest_examples.specs.Worked.{database, history, one, server, three, two, unmarked}
use Rattle.honest_examples.proofs.Changes.{keeps_nothing}
use Rattle.honest_examples.proofs.Soundness.{all_of_one, sound, sound_with_three, with_wrong}
use Rattle.honest_examples.proofs.Worked.{stands}
use Rattle.plain_data.proofs.Options.{same_some}

-- the first byte of the key of the row that is put first
abbrev first_digit : List Change → ℕ
first_digit (Put in_schema name (Value (byte ∷ bytes) ∷ cells) ∷ changes) = byte
first_digit changes = 0

pub new_link : ANewLinkHasSeenTheHistory
new_link = record {
  allowed = record { more = []; joined = refl; catalogue = λ quiet. keeps_nothing history database stands; alone = λ quiet sole. refl; willing = λ quiet willing. refl };
  more = record { more = puts_three ∷ []; joined = refl; catalogue = λ quiet. absurd (false≢true quiet); alone = λ quiet sole. absurd (false≢true quiet); willing = λ quiet willing. absurd (false≢true quiet) };
  refused = λ seen. omega (arith, ap (λ (list : List Transaction). length list) (ap (λ (more : List Transaction). history ++ more) (sym (seen.willing refl refl)) ∙ seen.joined));
}

pub greets : ANewLinkIsGreeted
unfolding packets
greets = record {
  allowed = record { alive = refl; greeting = greeting_packet; greets = record { found = _; says = refl; ends = refl; newer = refl; lean = λ p. omega arith }; waits = refl; seen = new_link.allowed; wide = λ p. refl; state_is = refl };
  locked = λ link. absurd (cc (ap (λ (state : State). state.frozen) link.state_is));
  silent = λ link. omega (arith, ap (λ (bytes : List ℕ). length bytes) link.waits, packets_length 0 link.greeting);
  wide_untold = λ link. absurd (false≢true (link.wide refl));
}

pub of_server : AGreetingIsOfItsServer
of_server = record {
  allowed = record { found = _; says = refl; ends = refl; newer = refl; lean = λ p. omega arith };
  by_ok = record { found = _; says = refl; ends = refl; newer = refl; lean = λ p. omega arith };
  other_ending = λ greets. cc (greets.says, greets.ends);
  other_version = λ greets. cc (greets.says, greets.newer);
}

pub connects : ConnectingLeavesTheHistory
connects = record {
  allowed = record { grows = record { rest = []; joined = refl }; quiet = λ quiet. refl; wide = λ told. told; new_is = refl };
  more = record { grows = record { rest = puts_three ∷ []; joined = refl }; quiet = λ quiet. absurd (false≢true quiet); wide = λ told. told; new_is = refl };
  refused = λ connects. omega (arith, ap (λ (s : ServedSite). length s.history) (connects.quiet refl));
}

-- interleavings of one list, beside which the others are empty

no_lists : All (λ (list : List Transaction). list ≡ []) []
no_lists = All-nil _

one_empty : All (λ (list : List Transaction). list ≡ []) ([] ∷ [])
one_empty = all_of_one (λ (list : List Transaction). list ≡ []) [] refl

pub two_empty : All (λ (list : List Transaction). list ≡ []) ([] ∷ [] ∷ [])
two_empty = All-cons (λ (list : List Transaction). list ≡ []) [] ([] ∷ []) refl one_empty

no_head : {lists fewer : List (List Transaction)} {x : Transaction} → TakesHead lists x fewer → All (λ (list : List Transaction). list ≡ []) lists → ⊥
no_head here empty = absurd (cc (empty 0 [] (omega arith)))
no_head (there head) empty = no_head head (λ k d within. empty (suc k) d (omega arith))

-- the head of a list is taken, beside which the others are empty
record IsOfFirst (list : List Transaction) (x : Transaction) (others fewer : List (List Transaction)) : Type 0 where
  rest : List Transaction
  list_is : list ≡ x ∷ rest
  fewer_is : fewer ≡ rest ∷ others

of_first : {lists fewer : List (List Transaction)} {x : Transaction} → TakesHead lists x fewer → (list : List Transaction) (others : List (List Transaction)) → lists ≡ list ∷ others → All (λ (list : List Transaction). list ≡ []) others → IsOfFirst list x others fewer
of_first (here {x} {list = rest} {lists}) list others is empty = record { rest = rest; list_is = cc; fewer_is = ap (λ (lists : List (List Transaction)). rest ∷ lists) (cc) }
of_first (there {list = front} {lists} head) list others is empty = absurd (no_head head (subst (λ (lists : List (List Transaction)). All (λ (list : List Transaction). list ≡ []) lists) (cc) empty))

pub only_list : {lists : List (List Transaction)} {whole : List Transaction} → Interleaves lists whole → (list : List Transaction) (others : List (List Transaction)) → lists ≡ list ∷ others → All (λ (list : List Transaction). list ≡ []) others → whole ≡ list
only_list (none_left none) list others is empty = sym (none_of none list others is)
  where
    none_of : {lists : List (List Transaction)} → All (λ (list : List Transaction). list ≡ []) lists → (list : List Transaction) (others : List (List Transaction)) → lists ≡ list ∷ others → list ≡ []
    none_of none list others is = (subst (λ (lists : List (List Transaction)). All (λ (list : List Transaction). list ≡ []) lists) is none) 0 [] (omega arith)
only_list (takes {x = x} head rest) list others is empty =
    let found = of_first head list others is empty in
    ap (λ (whole : List Transaction). x ∷ whole) (only_list rest found.rest others found.fewer_is empty) ∙ sym found.list_is

pub told : TheHistoryIsToldOnceAllAreBack
told = record {
  allowed = record {
    grows = record { rest = puts_three ∷ []; joined = refl };
    own = record { whole = puts_three ∷ []; interleaves = λ quiet. takes here (none_left one_empty); history = λ quiet. refl; none_left = λ quiet. refl; returned = λ loud. absurd (true≢false loud) };
    wide = λ told. told;
    link_wide = λ told. told;
    new_is = refl;
  };
  nothing_else = λ new back. back.own.history refl ∙ ap (λ (whole : List Transaction). history ++ whole) (only_list (back.own.interleaves refl) (puts_three ∷ []) [] refl no_lists);
  waits = λ new back. back.own.history refl;
}

-- grants

two_prefixes : (first second whole : List Transaction) → IsPrefix first whole → IsPrefix second whole → All (λ (grant : List Transaction). IsPrefix grant whole) (first ∷ second ∷ [])
two_prefixes first second whole one other = All-cons (λ (grant : List Transaction). IsPrefix grant whole) first (second ∷ []) one (all_of_one (λ (grant : List Transaction). IsPrefix grant whole) second other)

pub one_list : GrantsArePrefixesOfOneList
one_list = record {
  allowed = record {
    one = history ++ puts_three ∷ [];
    grants = two_prefixes (history ++ puts_three ∷ []) (history ++ []) (history ++ puts_three ∷ []) (record { rest = []; joined = refl }) (record { rest = puts_three ∷ []; joined = refl });
    sound = λ quiet none whole order. subst (λ (whole : List Transaction). IsSound server (history ++ whole)) (sym (only_list order [] [] refl no_lists)) sound;
  };
  refused = λ stays. never stays.one (stays.grants 0 [] (omega arith)) (stays.grants 1 [] (omega arith));
}
  where
    never : (whole : List Transaction) → IsPrefix (history ++ puts_three ∷ []) whole → IsPrefix (history ++ unmarked [] ∷ []) whole → ⊥
    never whole one other = omega (arith, ap (λ (list : List Transaction). first_digit (get_or list 3 puts_three).changes) (one.joined ∙ sym other.joined))

pub keys : LinksPutDifferentKeys
unfolding change_db has_object may_make
keys = record {
  allowed = record {
    one = [];
    grants = All-nil _;
    sound = λ quiet none whole order. subst (λ (whole : List Transaction). IsSound server (history ++ whole)) (sym (only_list order (puts_three ∷ []) ([] ∷ []) refl one_empty)) sound_with_three;
  };
  refused = λ stays. never (stays.sound refl refl (puts_three ∷ puts_three ∷ []) (takes here (takes (there here) (none_left two_empty))));
}
  where
    never : IsSound server (history ++ (puts_three ∷ puts_three ∷ [])) → ⊥
    never wrong = (with_wrong (one ∷ two ∷ three ∷ three ∷ []) (subst IsWellFormed (same_some (sym wrong.stands)) wrong.well_formed)).distinct 2 3 one (omega arith) (omega arith) refl

-- two links

-- the head is that of one of two lists
of_two : {lists fewer : List (List Transaction)} {x : Transaction} → TakesHead lists x fewer → (first second : Transaction) (ones others : List Transaction) → lists ≡ (first ∷ ones) ∷ (second ∷ others) ∷ [] → (x ≡ first) ⊎ (x ≡ second)
of_two here first second ones others is = inl (cc)
of_two (there here) first second ones others is = inr (cc)
of_two (there (there {lists = lists} head)) first second ones others is = let none : [] ≡ lists = cc in absurd (no_head head (subst (λ (lists : List (List Transaction)). All (λ (list : List Transaction). list ≡ []) lists) none no_lists))

first_of_both : {lists : List (List Transaction)} {whole : List Transaction} → Interleaves lists whole → lists ≡ of_both → (x : Transaction) (rest : List Transaction) → whole ≡ x ∷ rest → (x ≡ puts_three) ⊎ (x ≡ puts_five)
first_of_both (none_left none) is x rest whole_is = absurd (cc)
first_of_both (takes {x = taken} head after) is x rest whole_is = subst (λ (first : Transaction). (first ≡ puts_three) ⊎ (first ≡ puts_five)) (cc) (of_two head puts_three puts_five (puts_four ∷ []) [] is)

pub a_then_both : Interleaves of_both (puts_three ∷ puts_five ∷ puts_four ∷ [])
a_then_both = takes here (takes (there here) (takes here (none_left two_empty)))

pub b_first : IsPrefix (history ++ puts_three ∷ []) (history ++ (puts_five ∷ puts_three ∷ puts_four ∷ [])) → ⊥
b_first front = omega (arith, ap (λ (list : List Transaction). first_digit (get_or list 3 puts_three).changes) front.joined)

pub grant_first : AGrantComesFirst
grant_first = record {
  allowed = a_then_both;
  begins_so = record { rest = puts_five ∷ puts_four ∷ []; joined = refl };
  another = takes (there here) (takes here (takes here (none_left two_empty)));
  refused = b_first;
  out_of_order = λ order. neither (first_of_both order refl puts_four (puts_three ∷ puts_five ∷ []) refl);
}
  where
    neither : (puts_four ≡ puts_three) ⊎ (puts_four ≡ puts_five) → ⊥
    neither (inl same) = omega (arith, ap (λ (one : Transaction). first_digit one.changes) same)
    neither (inr same) = omega (arith, ap (λ (one : Transaction). first_digit one.changes) same)
