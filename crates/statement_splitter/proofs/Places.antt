-- Places, and what stands there.
use Rattle.std.proofs.Common.{◌≡◌, ◌≢◌, ℕ, ◌+◌, ◌<◌, ◌≤◌, ◌^◌, Bool, true, List, ◌++◌, length, take, drop, sym, ap, ◌∙◌, arith, subst, length-append}
use Rattle.std.proofs.lemmas.List.{length-drop, drop-drop, drop-append-le, drop_all, take-append-le, append_assoc}
use Rattle.splitter_forms.specs.Scan.{before_mark, size_in, end_size, is_line, plus}
use Rattle.splitter_forms.specs.Pieces.{opening, GivesPiece, mark_of, UnreadText, with_more, unread_past, ends_line, waiting, none, further, comment_step, step_by, step, next}
use Rattle.statement_splitter.specs.State.{FindsEnd, later_place, size_from, unread_at, InComment, InStatement, IsEnded, IsPlaceWithin, PassesOver, Known}
use Rattle.splitter_forms.specs.declared.delimiter.Delimiter.{Delimiter}
use Rattle.splitter_forms.specs.declared.delimiter.Delimiter.TheVariants.{Semicolon, Dollars}
use Rattle.splitter_forms.specs.declared.within.Within.{Within}
use Rattle.splitter_forms.specs.declared.within.Within.TheVariants.{Text}
use Rattle.splitter_forms.specs.declared.opening.Opening.{Opening}
use Rattle.splitter_forms.specs.declared.opening.Opening.TheVariants.{Nothing, White, Comment, DelimiterLine, Statement, Undecided}
use Rattle.splitter_forms.specs.declared.opening.CommentEnd.{CommentEnd}
use Rattle.splitter_forms.specs.declared.opening.CommentEnd.TheVariants.{LineFeed, StarSlash}
use Rattle.statement_splitter.specs.declared.place.Begun.{Begun}
use Rattle.statement_splitter.specs.declared.place.Begun.TheVariants.{Unknown, InComment as in_comment, InStatement as in_statement}
use Rattle.statement_splitter.specs.declared.place.Place.{Place}
use Rattle.statement_splitter.proofs.Searches.{plus-zero}
use Rattle.statement_splitter.proofs.Openings.{IsSure, HasRoom, opening_stays, opening_room}
use Rattle.statement_splitter.proofs.Wholes.{end_some}
use Rattle.statement_splitter.proofs.Nexts.{more_twice, passes_more, onward_further, found_here, comment_over}

pub unread_after : (bytes : List ℕ) (place : Place) (n : ℕ) (fresh : Bool) (ending : Delimiter) → unread_past n fresh ending (unread_at bytes place) ≡ unread_at bytes (later_place place n fresh ending)
unread_after bytes place n fresh ending = ap (λ rest. record (unread_past n fresh ending (unread_at bytes place)) { rest = rest }) (drop-drop n place.at bytes)

pub is_later_place : (bytes : List ℕ) (place : Place) (n : ℕ) (fresh : Bool) (ending : Delimiter) → IsPlaceWithin bytes place → n ≤ length (drop place.at bytes) → IsPlaceWithin bytes (later_place place n fresh ending)
is_later_place bytes place n fresh ending is room = record {
  inside = omega (arith, length-drop place.at bytes, is.inside);
  small = omega (arith, length-drop place.at bytes, is.inside, is.small);
  known = tt;
}

-- a place from which so many bytes are passed over
pub record IsOver (bytes : List ℕ) (old : Place) (n : ℕ) (fresh : Bool) (ending : Delimiter) : Type 0 where
  pub is : IsPlaceWithin bytes old
  pub some : 0 < n
  pub room : n ≤ length (drop old.at bytes)
  pub onward : (more : List ℕ) → next (with_more more (unread_at bytes old)) ≡ next (with_more more (unread_past n fresh ending (unread_at bytes old)))

pub over : (bytes : List ℕ) (old new : Place) (n : ℕ) (fresh : Bool) (ending : Delimiter) → IsOver bytes old n fresh ending → new ≡ later_place old n fresh ending → PassesOver bytes old new
over bytes old new n fresh ending h is =
    subst (PassesOver bytes old) (sym is) (record {
      onward = λ more. h.onward more ∙ ap (λ u. next (with_more more u)) (unread_after bytes old n fresh ending);
      further = omega (arith, h.some);
      even = omega arith;
      place = is_later_place bytes old n fresh ending h.is h.room;
    })

mark_some : (end : CommentEnd) → 0 < length (mark_of end)
mark_some LineFeed = omega arith
mark_some StarSlash = omega arith

pub comment_passed : (bytes : List ℕ) (old : Place) (from to : ℕ) (end : CommentEnd) → IsPlaceWithin bytes old → InComment (unread_at bytes old) from (mark_of end) → FindsEnd (before_mark (mark_of end)) (drop old.at bytes) from to (length (mark_of end)) → IsOver bytes old (to + length (mark_of end)) (ends_line (to + length (mark_of end)) (drop old.at bytes)) old.ending
comment_passed bytes old from to end is comment ends = record {
  is = is;
  some = omega (arith, mark_some end);
  room = ends.high;
  onward = comment_over (unread_at bytes old) from (mark_of end) to (mark_some end) comment ends;
}

-- the same place, of which more is known
pub comment_known : (bytes : List ℕ) (old : Place) (to : ℕ) (end : CommentEnd) → IsPlaceWithin bytes old → InComment (unread_at bytes old) to (mark_of end) → IsPlaceWithin bytes (record old { begun = in_comment end; scanned = to })
comment_known bytes old to end is comment = record { inside = is.inside; small = is.small; known = comment }

pub statement_known : (bytes : List ℕ) (old : Place) (to : ℕ) (within : Within) → IsPlaceWithin bytes old → InStatement (unread_at bytes old) to within → IsPlaceWithin bytes (record old { begun = in_statement within; scanned = to })
statement_known bytes old to within is statement = record { inside = is.inside; small = is.small; known = statement }

begins_in : (ending : Delimiter) (bytes : List ℕ) → size_in ending bytes ≡ plus 0 (size_from ending Text bytes)
begins_in Semicolon bytes = sym (plus-zero _)
begins_in (Dollars n) bytes = sym (plus-zero _)

module _ (u : UnreadText) where
  sure : (o : Opening) → opening u.fresh u.rest ≡ o → IsSure (length u.rest) o → (more : List ℕ) → opening u.fresh (u.rest ++ more) ≡ o
  sure o is s more = opening_stays u.fresh u.rest more (subst (IsSure (length u.rest)) (sym is) s) ∙ is

  room : (o : Opening) → opening u.fresh u.rest ≡ o → HasRoom (length u.rest) o
  room o is = subst (HasRoom (length u.rest)) is (opening_room u.fresh u.rest)

  comment_room : (size : ℕ) (end : CommentEnd) → opening u.fresh u.rest ≡ Comment size end → size ≤ length u.rest
  comment_room size end is = (room (Comment size end) is).1

  pub line_room : (size : ℕ) (ending : Delimiter) → opening u.fresh u.rest ≡ DelimiterLine size ending → (0 < size) × (size ≤ length u.rest)
  line_room size ending is = room (DelimiterLine size ending) is

  pub comment_begun : (size : ℕ) (end : CommentEnd) → opening u.fresh u.rest ≡ Comment size end → size ≢ length u.rest → InComment u size (mark_of end)
  comment_begun size end is other =
      let fits = comment_room size end is in
      let less : size < length u.rest = omega arith in
      record {
        within = fits;
        steps = λ more.
            ap (step_by (with_more more u)) (sure (Comment size end) is less more)
            ∙ ap (λ t. comment_step (with_more more u) (mark_of end) (plus size (before_mark (mark_of end) t))) (drop-append-le size u.rest more fits);
      }

  pub statement_begun : opening u.fresh u.rest ≡ Statement → InStatement u 0 Text
  statement_begun is = record {
    inside = omega arith;
    begins = sure Statement is tt;
    ends = λ more. begins_in u.ending (u.rest ++ more);
  }

  pub nothing_here : opening u.fresh u.rest ≡ Nothing → next u ≡ none u
  nothing_here is = found_here u (none u) (ap (step_by u) is)

  pub waiting_here : opening u.fresh u.rest ≡ Undecided → next u ≡ waiting u
  waiting_here is = found_here u (waiting u) (ap (step_by u) is)

  pub comment_bare : (size : ℕ) (end : CommentEnd) → opening u.fresh u.rest ≡ Comment size end → size ≡ length u.rest → next u ≡ none u
  comment_bare size end is all =
      found_here u (none u) (ap (step_by u) is ∙ ap (λ t. comment_step u (mark_of end) (plus size (before_mark (mark_of end) t))) (drop_all size u.rest (omega arith)))

  white_goes : opening u.fresh u.rest ≡ White → (more : List ℕ) → next (with_more more u) ≡ next (with_more more (unread_past 1 (ends_line 1 u.rest) u.ending u))
  white_goes is =
      let some : 0 < length u.rest = room White is in
      onward_further u (unread_past 1 (ends_line 1 u.rest) u.ending u) (λ more. ap (step_by (with_more more u)) (sure White is tt more) ∙ passes_more 1 u more (omega arith) (omega arith))

  line_goes : (size : ℕ) (ending : Delimiter) → opening u.fresh u.rest ≡ DelimiterLine size ending → (more : List ℕ) → next (with_more more u) ≡ next (with_more more (unread_past size true ending u))
  line_goes size ending is =
      let fits = line_room size ending is in
      onward_further u (unread_past size true ending u) (λ more.
      ap (step_by (with_more more u)) (sure (DelimiterLine size ending) is tt more)
      ∙ ap (λ t. further (record (unread_past size true ending (with_more more u)) { rest = t })) (drop-append-le size u.rest more fits.1))

pub white_over : (bytes : List ℕ) (old : Place) → IsPlaceWithin bytes old → opening old.fresh (drop old.at bytes) ≡ White → IsOver bytes old 1 (ends_line 1 (drop old.at bytes)) old.ending
white_over bytes old is opens = record {
  is = is;
  some = omega arith;
  room = room (unread_at bytes old) White opens;
  onward = white_goes (unread_at bytes old) opens;
}

pub line_over : (bytes : List ℕ) (old : Place) (size : ℕ) (ending : Delimiter) → IsPlaceWithin bytes old → opening old.fresh (drop old.at bytes) ≡ DelimiterLine size ending → IsOver bytes old size true ending
line_over bytes old size ending is opens = record {
  is = is;
  some = (line_room (unread_at bytes old) size ending opens).0;
  room = (line_room (unread_at bytes old) size ending opens).1;
  onward = line_goes (unread_at bytes old) size ending opens;
}

-- a statement that is ended is passed over
pub record IsGiven (bytes : List ℕ) (old : Place) (size : ℕ) (new : Place) : Type 0 where
  pub further : old.at < new.at
  pub even : new.offset + old.at ≡ old.offset + new.at
  pub place : IsPlaceWithin bytes new
  pub gives : GivesPiece (unread_at bytes old) (record { offset = old.offset; text = take size (drop old.at bytes) }) (unread_at bytes new)

ended_gives : (bytes : List ℕ) (old : Place) (size : ℕ) → IsEnded (unread_at bytes old) size → GivesPiece (unread_at bytes old) (record { offset = old.offset; text = take size (drop old.at bytes) }) (unread_at bytes (later_place old (size + end_size old.ending) (is_line old.ending) old.ending))
ended_gives bytes old size ended more =
    let rest : List ℕ = drop old.at bytes in
    let n : ℕ = size + end_size old.ending in
    let fits : n ≤ length rest = ended.fits in
    let text : take size (rest ++ more) ≡ take size rest = take-append-le size rest more (omega arith) in
    let left : drop n (rest ++ more) ≡ drop (old.at + n) bytes ++ more = drop-append-le n rest more fits ∙ ap (λ t. t ++ more) (drop-drop n old.at bytes) in
    ended.is more ∙ cc

pub given : (bytes : List ℕ) (old new : Place) (size : ℕ) → IsPlaceWithin bytes old → IsEnded (unread_at bytes old) size → new ≡ later_place old (size + end_size old.ending) (is_line old.ending) old.ending → IsGiven bytes old size new
given bytes old new size is ended new_is =
    subst (IsGiven bytes old size) (sym new_is) (record {
      further = omega (arith, end_some old.ending);
      even = omega arith;
      place = is_later_place bytes old (size + end_size old.ending) (is_line old.ending) old.ending is ended.fits;
      gives = ended_gives bytes old size ended;
    })

split_more : (bytes : List ℕ) (n : ℕ) (more rest : List ℕ) → n ≤ length bytes → drop n bytes ++ (more ++ rest) ≡ drop n (bytes ++ more) ++ rest
split_more bytes n more rest inside = sym (append_assoc (drop n bytes) more rest) ∙ ap (λ t. t ++ rest) (sym (drop-append-le n bytes more inside))

-- the same with more bytes
in_comment_more : (u : UnreadText) (scanned : ℕ) (word more : List ℕ) → InComment u scanned word → InComment (with_more more u) scanned word
in_comment_more u scanned word more comment = record {
  within = omega (arith, comment.within, length-append u.rest more);
  steps = λ rest.
      ap step (more_twice more rest u)
      ∙ comment.steps (more ++ rest)
      ∙ ap (λ v. comment_step v word (plus scanned (before_mark word (drop scanned u.rest ++ (more ++ rest))))) (sym (more_twice more rest u))
      ∙ ap (λ t. comment_step (with_more rest (with_more more u)) word (plus scanned (before_mark word t))) (split_more u.rest scanned more rest comment.within);
}

in_statement_more : (u : UnreadText) (scanned : ℕ) (within : Within) (more : List ℕ) → InStatement u scanned within → InStatement (with_more more u) scanned within
in_statement_more u scanned within more statement = record {
  inside = omega (arith, statement.inside, length-append u.rest more);
  begins = λ rest. ap (opening u.fresh) (append_assoc u.rest more rest) ∙ statement.begins (more ++ rest);
  ends = λ rest.
      ap (size_in u.ending) (append_assoc u.rest more rest)
      ∙ statement.ends (more ++ rest)
      ∙ ap (λ t. plus scanned (size_from u.ending within t)) (split_more u.rest scanned more rest statement.inside);
}

known_more : (u : UnreadText) (scanned : ℕ) (begun : Begun) (more : List ℕ) → Known u scanned begun → Known (with_more more u) scanned begun
known_more u scanned Unknown more known = tt
known_more u scanned (in_comment end) more known = in_comment_more u scanned (mark_of end) more known
known_more u scanned (in_statement within) more known = in_statement_more u scanned within more known

-- the place at the front of what is unread, with more bytes at the end
pub place_more : (bytes more now : List ℕ) (place : Place) → IsPlaceWithin bytes place → place.offset + length (drop place.at bytes) + length more ≤ 2 ^ 62 → now ≡ drop place.at bytes ++ more → IsPlaceWithin now (record place { at = 0 })
place_more bytes more now place is small now_is =
    subst (λ t. IsPlaceWithin t (record place { at = 0 })) (sym now_is) (record {
      inside = omega arith;
      small = omega (arith, length-append (drop place.at bytes) more);
      known = known_more (unread_at bytes place) place.scanned place.begun more is.known;
    })
