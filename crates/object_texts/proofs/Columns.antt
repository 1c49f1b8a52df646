-- Columns of items, one item at a time.
use Rattle.std.proofs.Common.{◌≡◌, ℕ, ◌&&◌, Bool, true, false, List, [], ◌∷◌, ◌++◌, map, Option, Some, None, refl, ◌∙◌, ap}
use Rattle.std.specs.List.{cons_option, filter_map}
use Rattle.std.specs.Str.{is_utf8}
use Rattle.object_forms.specs.declared.shape.Column.{Column}
use Rattle.object_texts.specs.Reading.{columns_in, columns_of, names_are, parts_left, with_parts}
use Rattle.object_forms.specs.Shape.{ColumnItem, column_of, parts}
use Rattle.object_forms.specs.Token.{Token, tokens}

-- the columns of what is left
abbrev pub columns_left : Option (List ℕ) → List Column
columns_left None = []
columns_left (Some text) = columns_in text

map-cons_option : (first : Option ColumnItem) (others : List ColumnItem) → map (λ (told : ColumnItem). told.column) (cons_option first others) ≡ columns_of first ++ map (λ (told : ColumnItem). told.column) others
map-cons_option None others = refl
map-cons_option (Some told) others = refl

columns-parts_left : (left : Option (List ℕ)) → map (λ (told : ColumnItem). told.column) (filter_map column_of (parts_left left)) ≡ columns_left left
columns-parts_left None = refl
columns-parts_left (Some text) = refl

-- the columns of a text are the one of its first item and those of what is left
pub columns-next : (text : List ℕ) (item : List ℕ) (left : Option (List ℕ)) → parts 0 (tokens text) ≡ with_parts (tokens item) left → columns_in text ≡ columns_of (column_of (tokens item)) ++ columns_left left
columns-next text item left e =
    ap (λ (all : List (List Token)). map (λ (told : ColumnItem). told.column) (filter_map column_of all)) e
    ∙ map-cons_option (column_of (tokens item)) (filter_map column_of (parts_left left)) ∙ ap (λ (others : List Column). columns_of (column_of (tokens item)) ++ others) (columns-parts_left left)

and-assoc : (a b c : Bool) → (a && (b && c)) ≡ ((a && b) && c)
and-assoc true b c = refl
and-assoc false b c = refl

pub names_are-append : (some others : List Column) → names_are (some ++ others) ≡ (names_are some && names_are others)
names_are-append [] others = refl
names_are-append (column ∷ some) others = ap (λ (all : Bool). is_utf8 column.name && all) (names_are-append some others) ∙ and-assoc (is_utf8 column.name) (names_are some) (names_are others)

pub ruleset columns = (columns-next, names_are-append)
