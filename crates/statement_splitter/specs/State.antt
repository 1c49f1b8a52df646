-- How far a splitter looked at the bytes that it holds.
use Rattle.std.specs.Prelude.{◌≡◌, ℕ, ◌+◌, ◌-◌, ◌<◌, ◌≤◌, ◌^◌, ◌==◌, ◌&&◌, Bool, true, false, List, [], ◌∷◌, ◌++◌, length, replicate, drop, slice_index, Option, Some, None}
use Rattle.splitter_forms.specs.Scan.{after_byte, is_text, before_semicolon, before_mark, dollar_line, size_in, end_size, is_line, plus}
use Rattle.splitter_forms.specs.Pieces.{begins, is_front_of, opening, mark_of, UnreadText, with_more, unended, waiting, none, statement_next, comment_step, step, next, next_size}
use Rattle.splitter_forms.specs.declared.delimiter.Delimiter.{Delimiter}
use Rattle.splitter_forms.specs.declared.delimiter.Delimiter.TheVariants.{Semicolon, Dollars}
use Rattle.splitter_forms.specs.declared.within.Within.{Within}
use Rattle.splitter_forms.specs.declared.opening.Opening.TheVariants.{Statement}
use Rattle.statement_splitter.specs.declared.scan.Scan.{Scan}
use Rattle.statement_splitter.specs.declared.mark.Mark.{Mark}
use Rattle.statement_splitter.specs.declared.mark.Likeness.{Likeness}
use Rattle.statement_splitter.specs.declared.mark.Likeness.TheVariants as like
use Rattle.statement_splitter.specs.declared.place.Begun.{Begun}
use Rattle.statement_splitter.specs.declared.place.Place.{Place}
use Rattle.statement_splitter.specs.declared.place.Found.{Found}
use Rattle.statement_splitter.specs.declared.scan.Scan.TheVariants as scan
use Rattle.statement_splitter.specs.declared.mark.Mark.TheVariants as mark
use Rattle.statement_splitter.specs.declared.place.Begun.TheVariants as begun
use Rattle.statement_splitter.specs.declared.place.Found.TheVariants as find

-- the byte ends no statement there, and the next byte stands where it stands
abbrev pub IsPlain : Within → ℕ → Type 0
IsPlain within byte = (after_byte within byte ≡ within) × ((byte == 59 && is_text within) ≡ false)

-- the bytes from the one place up to the other are such bytes
pub record RunWithin (within : Within) (bytes : List ℕ) (from to : ℕ) : Type 0 where
  pub low : from ≤ to
  pub high : to ≤ length bytes
  pub plain : (k : ℕ) → from ≤ k → k < to → IsPlain within (slice_index bytes k)

-- the first place from the one on where the test passes, or the end
pub record Until (test : ℕ → Bool) (bytes : List ℕ) (from to : ℕ) : Type 0 where
  pub low : from ≤ to
  pub high : to ≤ length bytes
  pub before : (k : ℕ) → from ≤ k → k < to → test (slice_index bytes k) ≡ false
  pub passes : to < length bytes → test (slice_index bytes to) ≡ true

-- whatever bytes follow, a search by `f` from the one place finds what one by `g` from the other finds
pub record GoesOn (f g : List ℕ → Option ℕ) (bytes : List ℕ) (from to : ℕ) : Type 0 where
  pub low : from ≤ to
  pub high : to ≤ length bytes
  pub same : (more : List ℕ) →
      plus from (f (drop from bytes ++ more)) ≡ plus to (g (drop to bytes ++ more))

-- whatever bytes follow, a search by `f` from the one place finds the other, and so many bytes are there
pub record FindsEnd (f : List ℕ → Option ℕ) (bytes : List ℕ) (from to size : ℕ) : Type 0 where
  pub low : from ≤ to
  pub high : to + size ≤ length bytes
  pub finds : (more : List ℕ) → plus from (f (drop from bytes ++ more)) ≡ Some to

-- a byte, so many dollars, a byte
abbrev pub dollar_mark : ℕ → ℕ → ℕ → List ℕ
dollar_mark first n last = first ∷ (replicate n 36 ++ last ∷ [])

-- how bytes compare with a word
abbrev pub Compares : List ℕ → List ℕ → Likeness → Type 0
Compares word bytes like.Whole = begins word bytes ≡ true
Compares word bytes like.Front = is_front_of word bytes ≡ true
Compares word bytes like.Neither = (begins word bytes ≡ false) × (is_front_of word bytes ≡ false)

-- what a search for a mark found
abbrev pub SearchesMark : List ℕ → List ℕ → ℕ → Mark → Type 0
SearchesMark word bytes from (mark.Ended to) =
    FindsEnd (before_mark word) bytes from to (length word)
SearchesMark word bytes from (mark.Open to) =
    GoesOn (before_mark word) (before_mark word) bytes from to
    × (is_front_of word (drop to bytes) ≡ true)

-- where a statement ends, from the place on up to which it is scanned
abbrev pub size_from : Delimiter → Within → List ℕ → Option ℕ
size_from Semicolon within bytes = before_semicolon within bytes
size_from (Dollars n) within bytes = before_mark (dollar_line n) bytes

-- a statement may end there, and may not end before
abbrev pub MayEnd : Delimiter → List ℕ → ℕ → Type 0
MayEnd Semicolon bytes to = to ≡ length bytes
MayEnd (Dollars n) bytes to = is_front_of (dollar_line n) (drop to bytes) ≡ true

-- what a search for the end of a statement found
abbrev pub SearchesEnd : Delimiter → Within → List ℕ → ℕ → Scan → Type 0
SearchesEnd ending within bytes from (scan.Ended to) =
    FindsEnd (size_from ending within) bytes from to (end_size ending)
SearchesEnd ending within bytes from (scan.Open to after) =
    GoesOn (size_from ending within) (size_from ending after) bytes from to × MayEnd ending bytes to

-- the place so many bytes further, of which nothing is known
abbrev pub later_place : Place → ℕ → Bool → Delimiter → Place
later_place place size fresh ending = record {
  at = place.at + size;
  offset = place.offset + size;
  fresh = fresh;
  ending = ending;
  begun = begun.Unknown;
  scanned = 0;
}

-- the place after a statement of so many bytes and what ends it
abbrev pub place_after_statement : Place → ℕ → Place
place_after_statement place size =
    later_place place (size + end_size place.ending) (is_line place.ending) place.ending

-- what is unread at a place of the bytes
abbrev pub unread_at : List ℕ → Place → UnreadText
unread_at bytes place =
    record {
      ending = place.ending;
      fresh = place.fresh;
      offset = place.offset;
      rest = drop place.at bytes;
    }

-- a comment is begun, and its end is searched for after so many bytes
pub record InComment (unread : UnreadText) (scanned : ℕ) (word : List ℕ) : Type 0 where
  pub within : scanned ≤ length unread.rest
  pub steps : (more : List ℕ) →
      step (with_more more unread)
      ≡ comment_step (with_more more unread) word
      (plus scanned (before_mark word (drop scanned unread.rest ++ more)))

-- a statement is begun, and its end is searched for after so many bytes
pub record InStatement (unread : UnreadText) (scanned : ℕ) (within : Within) : Type 0 where
  pub inside : scanned ≤ length unread.rest
  pub begins : (more : List ℕ) → opening unread.fresh (unread.rest ++ more) ≡ Statement
  pub ends : (more : List ℕ) →
      size_in unread.ending (unread.rest ++ more)
      ≡ plus scanned (size_from unread.ending within (drop scanned unread.rest ++ more))

-- what is known of what is begun
abbrev pub Known : UnreadText → ℕ → Begun → Type 0
Known unread scanned begun.Unknown = Unit {0}
Known unread scanned (begun.InComment end) = InComment unread scanned (mark_of end)
Known unread scanned (begun.InStatement within) = InStatement unread scanned within

-- whatever bytes follow, the next statement has so many bytes or more, and with some it has so many
pub record LeastSize (unread : UnreadText) (least : ℕ) : Type 0 where
  pub no_less : (more : List ℕ) → (size : ℕ)
      × (next_size (next (with_more more unread)) ≡ Some size) × (least ≤ size)
  pub reached : (more : List ℕ) × (next_size (next (with_more more unread)) ≡ Some least)

-- whatever bytes follow, a statement of so many bytes stands here, and what ends it
pub record IsEnded (unread : UnreadText) (size : ℕ) : Type 0 where
  pub fits : size + end_size unread.ending ≤ length unread.rest
  pub is : (more : List ℕ) →
      next (with_more more unread) ≡ statement_next (with_more more unread) (Some size)

-- what stands here
abbrev pub Stands : Found → UnreadText → ℕ → Type 0
Stands (find.Ended size) unread scanned = IsEnded unread size
Stands find.Unended unread scanned = (next unread ≡ unended unread) × LeastSize unread scanned
Stands find.Waiting unread scanned =
    (next unread ≡ waiting unread)
    × ((more : List ℕ) × (next_size (next (with_more more unread)) ≡ None))
Stands find.Nothing unread scanned = next unread ≡ none unread

-- how many bytes the next statement has at least, whatever bytes follow; 0 where none may come
abbrev pub least : Found → ℕ → ℕ
least (find.Ended size) scanned = size
least find.Unended scanned = scanned
least find.Waiting scanned = 0
least find.Nothing scanned = 0

-- a place within the bytes, of which no more than so many are in a file
pub record IsPlaceWithin (bytes : List ℕ) (place : Place) : Type 0 where
  pub inside : place.at ≤ length bytes
  pub small : place.offset + (length bytes - place.at) ≤ 2 ^ 62
  pub known : Known (unread_at bytes place) place.scanned place.begun

-- the new place is where something stands that isn't passed over, and all before it is passed over
pub record Finds (bytes : List ℕ) (old : Place) (found : Found) (new : Place) : Type 0 where
  pub onward : (more : List ℕ) →
      next (with_more more (unread_at bytes old)) ≡ next (with_more more (unread_at bytes new))
  pub low : old.at ≤ new.at
  pub even : new.offset + old.at ≡ old.offset + new.at
  pub place : IsPlaceWithin bytes new
  pub stands : Stands found (unread_at bytes new) new.scanned

-- bytes are passed over
pub record PassesOver (bytes : List ℕ) (old new : Place) : Type 0 where
  pub onward : (more : List ℕ) →
      next (with_more more (unread_at bytes old)) ≡ next (with_more more (unread_at bytes new))
  pub further : old.at < new.at
  pub even : new.offset + old.at ≡ old.offset + new.at
  pub place : IsPlaceWithin bytes new

-- one thing is passed over, or nothing is and that stands here
abbrev pub Turns : List ℕ → Place → Option Found → Place → Type 0
Turns bytes old None new = PassesOver bytes old new
Turns bytes old (Some found) new =
    (unread_at bytes new ≡ unread_at bytes old) × (new.at ≡ old.at) × IsPlaceWithin bytes new
    × Stands found (unread_at bytes new) new.scanned
