-- Tile groups are written tile by tile, and read back as they were written.
use Rattle.std.proofs.Common.{rules, ◌≡◌, ◌≢◌, ℕ, zero, suc, ◌+◌, ◌-◌, ◌*◌, ◌/◌, ◌%◌, ◌^◌, ◌<◌, ◌≤◌, inl, inr, List, [], ◌∷◌, ◌++◌, length, map, take, drop, get_or, All, Bool, true, false, true≢false, Option, Some, None, refl, sym, ap, ◌∙◌, subst, arith, append_assoc}
use Rattle.std.specs.Prelude.{◌==◌, nat_lt, if◌then◌else◌, option_map, Result, Ok, Err, IfOk, IfSome, IfNone}
use Rattle.std.specs.List.{flat_map}
use Rattle.std.proofs.lemmas.Bool.Decides.{nat_tests}
use Rattle.std.proofs.lemmas.Option.{none-some}
use Rattle.std.proofs.lemmas.List.{length-append, length-drop, length-take-le, take-append-drop, map-append, map_more, length-map, get_or-map, get_or_append_left}
use Rattle.std.proofs.lemmas.Grind.{flat_map-append}
use Rattle.std.proofs.lemmas.List.Elements.{All-nil, All-cons, All-head, All-tail, All-take, All-drop}
use Rattle.std.proofs.Math.Seq.{take-append_seam, drop-append_seam}
use Rattle.std.proofs.Math.Nat.{pow-succ', pow-le-pow_right}
use Rattle.av1_frame.specs.Framing.{little_endian, with_size, sized, framed_with, number_of, next_size, parsed, group_tiles, behind_flags, CanFrame, IsFramedAs}

-- Numbers in bytes.

-- a number's lowest byte, and the bytes above it
little_endian-next : (count i n : ℕ) → i < count → little_endian (count - i) n ≡ n % 256 ∷ little_endian (count - (i + 1)) (n / 256)
unfolding little_endian
little_endian-next count i n l =
    let more : count - i ≡ suc (count - (i + 1)) = omega arith in
    ap (λ (k : ℕ). little_endian k n) more

-- one byte more of a number is written
pub bytes_more : (count i n rest : ℕ) (bytes : List ℕ) → i < count → bytes ++ little_endian (count - i) rest ≡ little_endian count n
    → (bytes ++ rest % 256 ∷ []) ++ little_endian (count - (i + 1)) (rest / 256) ≡ little_endian count n
bytes_more count i n rest bytes l e =
    append_assoc bytes (rest % 256 ∷ []) (little_endian (count - (i + 1)) (rest / 256))
    ∙ (ap (λ (xs : List ℕ). bytes ++ xs) (sym (little_endian-next count i rest l)) ∙ e)

-- after the last byte the number is written
pub bytes_done : (count i n rest : ℕ) (bytes : List ℕ) → count ≤ i → bytes ++ little_endian (count - i) rest ≡ little_endian count n → bytes ≡ little_endian count n
unfolding little_endian
bytes_done count i n rest bytes l e =
    let none : count - i ≡ 0 = omega arith in
    let left : little_endian (count - i) rest ≡ [] = ap (λ (k : ℕ). little_endian k rest) none in
    let all : bytes ++ [] ≡ bytes = search rules in
    sym all ∙ (ap (λ (xs : List ℕ). bytes ++ xs) (sym left) ∙ e)

-- A number in `count` bytes has `count` bytes.
length-little_endian : (count n : ℕ) → length (little_endian count n) ≡ count
unfolding little_endian
length-little_endian zero n = refl
length-little_endian (suc count) n = let more = length-little_endian count (n / 256) in omega arith

-- A number that fits its bytes is read back from them.
number_of-little_endian : (count n : ℕ) → n < 256 ^ count → number_of (little_endian count n) ≡ n
unfolding little_endian number_of
number_of-little_endian zero n l = let one : 256 ^ zero ≡ 1 = refl in omega arith
number_of-little_endian (suc count) n l =
    let power : 256 ^ suc count ≡ 256 * 256 ^ count = pow-succ' 256 count in
    let more : number_of (little_endian count (n / 256)) ≡ n / 256 = number_of-little_endian count (n / 256) (omega arith) in
    omega arith

-- each number of a list is a byte
abbrev pub AreBytes : List ℕ → Type 0
AreBytes bytes = All (λ byte. byte < 256) bytes

-- A list whose entries are all below 256 is a list of bytes.
pub bytes_from : (bytes : List ℕ) → ((i : ℕ) → get_or bytes i 0 < 256) → AreBytes bytes
bytes_from [] each = All-nil (λ b. b < 256)
bytes_from (byte ∷ bytes) each = All-cons (λ b. b < 256) byte bytes (each 0) (bytes_from bytes (λ i. each (suc i)))

-- The number in n bytes is below 256 ^ n.
pub number_of-bound : (bytes : List ℕ) → AreBytes bytes → number_of bytes < 256 ^ length bytes
unfolding number_of
number_of-bound [] each = omega arith
number_of-bound (byte ∷ bytes) each =
    let more = number_of-bound bytes (All-tail (λ b. b < 256) byte bytes each) in
    let here : byte < 256 = All-head (λ b. b < 256) byte bytes each in
    let power : 256 ^ suc (length bytes) ≡ 256 * 256 ^ length bytes = pow-succ' 256 (length bytes) in
    omega arith

-- Bytes are written back from the number that they are.
little_endian-number_of : (bytes : List ℕ) → AreBytes bytes → little_endian (length bytes) (number_of bytes) ≡ bytes
unfolding little_endian number_of
little_endian-number_of [] each = refl
little_endian-number_of (byte ∷ bytes) each =
    let here : byte < 256 = All-head (λ b. b < 256) byte bytes each in
    let low : (byte + 256 * number_of bytes) % 256 ≡ byte = omega arith in
    let high : (byte + 256 * number_of bytes) / 256 ≡ number_of bytes = omega arith in
    (λ i. low i ∷ little_endian (length bytes) (high i))
    ∙ ap (λ (xs : List ℕ). byte ∷ xs) (little_endian-number_of bytes (All-tail (λ b. b < 256) byte bytes each))

-- No bytes are the number 0.
pub number_of-nil : number_of [] ≡ 0
unfolding number_of
number_of-nil = refl

-- The first byte is the lowest one of the number that bytes are.
pub number_of-cons : (byte : ℕ) (bytes : List ℕ) → number_of (byte ∷ bytes) ≡ byte + 256 * number_of bytes
unfolding number_of
number_of-cons byte bytes = refl

-- a number of at most three bytes is below 2^24
pub three_bytes : (n count : ℕ) → n < 256 ^ count → count ≤ 3 → n < 16777216
three_bytes n count l few =
    let most : 256 ^ count ≤ 256 ^ 3 = pow-le-pow_right {n = 256} (omega arith) few in
    omega arith

-- a number of at most four bytes is below 2^32
pub four_bytes : (n count : ℕ) → n < 256 ^ count → count ≤ 4 → n < 4294967296
four_bytes n count l few =
    let most : 256 ^ count ≤ 256 ^ 4 = pow-le-pow_right {n = 256} (omega arith) few in
    omega arith

-- Writing.

-- a list of tiles is framed as all but the last behind their sizes, and the last
sized-last : (count : ℕ) (tiles : List (List ℕ)) (last : List ℕ) → sized count (tiles ++ last ∷ []) ≡ flat_map (with_size count) tiles ++ last
unfolding sized
sized-last count [] last = refl
sized-last count (tile ∷ []) last =
    let alone : with_size count tile ++ [] ≡ with_size count tile = search rules in
    ap (λ (xs : List ℕ). xs ++ last) (sym alone)
sized-last count (tile ∷ next ∷ tiles) last =
    ap (λ (xs : List ℕ). with_size count tile ++ xs) (sized-last count (next ∷ tiles) last)
    ∙ sym (append_assoc (with_size count tile) (flat_map (with_size count) (next ∷ tiles)) last)

-- the flags before several tiles
abbrev pub flags : {A : Type 0} → List A → List ℕ
flags [] = []
flags (tile ∷ tiles) = 0 ∷ []

-- A tile group is the flags, each tile but the last behind its size, and the last tile.
pub framed-last : (count : ℕ) (tiles : List (List ℕ)) (last : List ℕ) → framed_with count (tiles ++ last ∷ []) ≡ (flags tiles ++ flat_map (with_size count) tiles) ++ last
unfolding framed_with
framed-last count [] last = refl
framed-last count (tile ∷ []) last = ap (λ (xs : List ℕ). 0 ∷ xs) (sized-last count (tile ∷ []) last)
framed-last count (tile ∷ next ∷ tiles) last = ap (λ (xs : List ℕ). 0 ∷ xs) (sized-last count (tile ∷ next ∷ tiles) last)

-- Reading.

-- a tile isn't read where too few bytes are left
pub parsed-short : (count others : ℕ) (bytes : List ℕ) → length bytes < count + next_size count bytes → parsed count (suc others) bytes ≡ None
unfolding parsed
parsed-short count others bytes l =
    let test : nat_lt (length bytes) (count + next_size count bytes) ≡ true = grind (arith, nat_tests) in
    rw test refl

-- a tile is read where enough bytes are left
pub parsed-next : (count others : ℕ) (bytes : List ℕ) → count + next_size count bytes ≤ length bytes
    → parsed count (suc others) bytes ≡ option_map (λ tiles. take (next_size count bytes) (drop count bytes) ∷ tiles) (parsed count others (drop (next_size count bytes) (drop count bytes)))
unfolding parsed
parsed-next count others bytes l =
    let test : nat_lt (length bytes) (count + next_size count bytes) ≡ false = grind (arith, nat_tests) in
    rw test refl

-- A last tile without bytes isn't read.
pub parsed-empty : (count : ℕ) (bytes : List ℕ) → length bytes ≡ 0 → parsed count 0 bytes ≡ None
unfolding parsed
parsed-empty count bytes e = rw e refl

-- The bytes that are left after all other tiles are the last tile.
pub parsed-rest : (count : ℕ) (bytes : List ℕ) → length bytes ≢ 0 → parsed count 0 bytes ≡ Some (bytes ∷ [])
unfolding parsed
parsed-rest count bytes some =
    let test : (length bytes == 0) ≡ false = grind (arith, nat_tests) in
    rw test refl

-- a tile behind its size is read back
parsed-front : (count others : ℕ) (front tile after : List ℕ) → length front ≡ count → number_of front + 1 ≡ length tile
    → parsed count (suc others) (front ++ (tile ++ after)) ≡ option_map (λ tiles. tile ∷ tiles) (parsed count others after)
parsed-front count others front tile after long size =
    let bytes = front ++ (tile ++ after) in
    let first : take count bytes ≡ front = subst (λ (k : ℕ). take k (front ++ (tile ++ after)) ≡ front) long (take-append_seam front (tile ++ after)) in
    let rest : drop count bytes ≡ tile ++ after = subst (λ (k : ℕ). drop k (front ++ (tile ++ after)) ≡ tile ++ after) long (drop-append_seam front (tile ++ after)) in
    let next : next_size count bytes ≡ length tile = ap (λ (xs : List ℕ). number_of xs + 1) first ∙ size in
    let all : length bytes ≡ length front + (length tile + length after) = length-append front (tile ++ after) ∙ ap (λ (k : ℕ). length front + k) (length-append tile after) in
    let here : take (next_size count bytes) (drop count bytes) ≡ tile = (λ i. take (next i) (rest i)) ∙ take-append_seam tile after in
    let behind : drop (next_size count bytes) (drop count bytes) ≡ after = (λ i. drop (next i) (rest i)) ∙ drop-append_seam tile after in
    parsed-next count others bytes (omega arith)
    ∙ (λ i. option_map (λ tiles. here i ∷ tiles) (parsed count others (behind i)))

-- each list that can be framed is read back
pub parsed-sized : (count : ℕ) (tile : List ℕ) (tiles : List (List ℕ)) → All (λ t. 1 ≤ length t) (tile ∷ tiles)
    → ((k : ℕ) → k + 1 < length (tile ∷ tiles) → length (get_or (tile ∷ tiles) k []) ≤ 256 ^ count)
    → parsed count (length tiles) (sized count (tile ∷ tiles)) ≡ Some (tile ∷ tiles)
unfolding sized
parsed-sized count tile [] filled fits =
    let some : 1 ≤ length tile = All-head (λ t. 1 ≤ length t) tile [] filled in
    parsed-rest count tile (omega arith)
parsed-sized count tile (next ∷ tiles) filled fits =
    let some : 1 ≤ length tile = All-head (λ t. 1 ≤ length t) tile (next ∷ tiles) filled in
    let small : length tile ≤ 256 ^ count = fits 0 (omega arith) in
    let front = little_endian count (length tile - 1) in
    let number : number_of front ≡ length tile - 1 = number_of-little_endian count (length tile - 1) (omega arith) in
    let grouped : with_size count tile ++ sized count (next ∷ tiles) ≡ front ++ (tile ++ sized count (next ∷ tiles)) = append_assoc front tile (sized count (next ∷ tiles)) in
    ap (λ (xs : List ℕ). parsed count (suc (length tiles)) xs) grouped
    ∙ (parsed-front count (length tiles) front tile (sized count (next ∷ tiles)) (length-little_endian count (length tile - 1)) (omega arith)
    ∙ ap (λ (o : Option (List (List ℕ))). option_map (λ ts. tile ∷ ts) o)
    (parsed-sized count next tiles (All-tail (λ t. 1 ≤ length t) tile (next ∷ tiles) filled) (more_fits count tile (next ∷ tiles) fits)))
  where
    more_fits : (c : ℕ) (t : List ℕ) (ts : List (List ℕ)) → ((k : ℕ) → k + 1 < length (t ∷ ts) → length (get_or (t ∷ ts) k []) ≤ 256 ^ c)
        → (k : ℕ) → k + 1 < length ts → length (get_or ts k []) ≤ 256 ^ c
    more_fits c t ts h k l = h (suc k) (omega arith)

-- A list of tiles that is read is framed as the bytes that it was read from.

-- tiles that were read from bytes: how many they are, that none is empty, and that they are framed so
record IsParsed (count others : ℕ) (bytes : List ℕ) (tiles : List (List ℕ)) : Type 0 where
  pub number : length tiles ≡ others + 1
  pub filled : All (λ tile. 1 ≤ length tile) tiles
  pub fits : (k : ℕ) → k + 1 < length tiles → length (get_or tiles k []) ≤ 256 ^ count
  pub framed : sized count tiles ≡ bytes

-- A single tile is read as the list of this tile.
one_parsed : (count : ℕ) (bytes : List ℕ) → length bytes ≢ 0 → IsParsed count 0 bytes (bytes ∷ [])
unfolding sized
one_parsed count bytes some = record {
  number = refl;
  filled = All-cons (λ t. 1 ≤ length t) bytes [] (omega arith) (All-nil (λ t. 1 ≤ length t));
  fits = λ k l. absurd (omega arith);
  framed = refl;
}

-- One tile more before a list that was read is a list that was read.
more_parsed : (count others : ℕ) (bytes : List ℕ) (tiles : List (List ℕ)) → AreBytes bytes → count + next_size count bytes ≤ length bytes
    → IsParsed count others (drop (next_size count bytes) (drop count bytes)) tiles
    → IsParsed count (suc others) bytes (take (next_size count bytes) (drop count bytes) ∷ tiles)
unfolding sized
more_parsed count others bytes [] each room h = absurd (let none = h.number in omega arith)
more_parsed count others bytes (next ∷ tiles) each room h =
    let size = next_size count bytes in
    let front = take count bytes in
    let tile = take size (drop count bytes) in
    let long : length front ≡ count = length-take-le count bytes (omega arith) in
    let left = length-drop count bytes in
    let filled : length tile ≡ size = length-take-le size (drop count bytes) (omega arith) in
    let are_bytes : AreBytes front = All-take (λ b. b < 256) count bytes each in
    let bound : number_of front < 256 ^ count = subst (λ (k : ℕ). number_of front < 256 ^ k) long (number_of-bound front are_bytes) in
    let less : length tile - 1 ≡ number_of front = omega arith in
    let written : little_endian count (length tile - 1) ≡ front = (λ i. little_endian (sym long i) (less i)) ∙ little_endian-number_of front are_bytes in
    let behind : tile ++ drop size (drop count bytes) ≡ drop count bytes = take-append-drop size (drop count bytes) in
    record {
      number = let n = h.number in omega arith;
      filled = All-cons (λ t. 1 ≤ length t) tile (next ∷ tiles) (omega arith) h.filled;
      fits = fits_more count tile (next ∷ tiles) (omega arith) h.fits;
      framed = (λ i. (written i ++ tile) ++ h.framed i)
          ∙ (append_assoc front tile (drop size (drop count bytes))
          ∙ (ap (λ (xs : List ℕ). front ++ xs) behind ∙ take-append-drop count bytes));
    }
  where
    fits_more : (c : ℕ) (t : List ℕ) (ts : List (List ℕ)) → length t ≤ 256 ^ c → ((k : ℕ) → k + 1 < length ts → length (get_or ts k []) ≤ 256 ^ c)
        → (k : ℕ) → k + 1 < length (t ∷ ts) → length (get_or (t ∷ ts) k []) ≤ 256 ^ c
    fits_more c t ts small h zero l = small
    fits_more c t ts small h (suc k) l = h k (omega arith)

-- the last tile that is read is the bytes that are left
last_parsed : (count : ℕ) (bytes : List ℕ) (tiles : List (List ℕ)) (b : Bool) → (length bytes == 0) ≡ b → parsed count 0 bytes ≡ Some tiles → IsParsed count 0 bytes tiles
last_parsed count bytes tiles true test e = absurd (none-some tiles (sym (parsed-empty count bytes (grind (arith, nat_tests))) ∙ e))
last_parsed count bytes tiles false test e =
    let some : length bytes ≢ 0 = grind (arith, nat_tests) in
    let read = parsed-rest count bytes some in
    let same : bytes ∷ [] ≡ tiles = cc in
    subst (IsParsed count 0 bytes) same (one_parsed count bytes some)

-- a tile that is read before others is framed with them
next_parsed : (count others : ℕ) (bytes : List ℕ) (tiles : List (List ℕ)) (b : Bool) (o : Option (List (List ℕ))) → AreBytes bytes
    → nat_lt (length bytes) (count + next_size count bytes) ≡ b → parsed count others (drop (next_size count bytes) (drop count bytes)) ≡ o
    → ((more : List (List ℕ)) → o ≡ Some more → IsParsed count others (drop (next_size count bytes) (drop count bytes)) more)
    → parsed count (suc others) bytes ≡ Some tiles → IsParsed count (suc others) bytes tiles
next_parsed count others bytes tiles true o each test rest h e = absurd (none-some tiles (sym (parsed-short count others bytes (grind (arith, nat_tests))) ∙ e))
next_parsed count others bytes tiles false None each test rest h e =
    let room : count + next_size count bytes ≤ length bytes = grind (arith, nat_tests) in
    let read = parsed-next count others bytes room ∙ ap (λ (p : Option (List (List ℕ))). option_map (λ ts. take (next_size count bytes) (drop count bytes) ∷ ts) p) rest in
    absurd (none-some tiles (sym read ∙ e))
next_parsed count others bytes tiles false (Some more) each test rest h e =
    let room : count + next_size count bytes ≤ length bytes = grind (arith, nat_tests) in
    let read = parsed-next count others bytes room ∙ ap (λ (p : Option (List (List ℕ))). option_map (λ ts. take (next_size count bytes) (drop count bytes) ∷ ts) p) rest in
    let same : take (next_size count bytes) (drop count bytes) ∷ more ≡ tiles = cc in
    subst (IsParsed count (suc others) bytes) same (more_parsed count others bytes more each room (h more refl))

-- A list that was read has the asked number of tiles, none empty, and gives the bytes when framed.
parsed_is : (count others : ℕ) (bytes : List ℕ) (tiles : List (List ℕ)) → AreBytes bytes → parsed count others bytes ≡ Some tiles → IsParsed count others bytes tiles
parsed_is count zero bytes tiles each e = last_parsed count bytes tiles (length bytes == 0) refl e
parsed_is count (suc others) bytes tiles each e =
    let after = drop (next_size count bytes) (drop count bytes) in
    next_parsed count others bytes tiles (nat_lt (length bytes) (count + next_size count bytes)) (parsed count others after) each refl refl
    (λ more f. parsed_is count others after more (drop_bytes (next_size count bytes) (drop count bytes) (drop_bytes count bytes each)) f) e
  where
    drop_bytes : (n : ℕ) (xs : List ℕ) → AreBytes xs → AreBytes (drop n xs)
    drop_bytes n xs h = All-drop (λ b. b < 256) n xs h

-- What the loops of writing and reading keep.

-- one tile more is framed behind its size
pub sized_more : {X : Type 0} (items : X → List ℕ) (count i : ℕ) (tiles : List X) (tile : X) (start group middle end size : List ℕ) → i < length tiles → tile ≡ get_or tiles i tile
    → group ≡ start ++ flat_map (with_size count) (map items (take i tiles)) → middle ≡ group ++ size → size ≡ little_endian count (length (items tile) - 1) → end ≡ middle ++ items tile
    → end ≡ start ++ flat_map (with_size count) (map items (take (i + 1) tiles))
sized_more items count i tiles tile start group middle end size l is so_far first written second =
    let more : map items (take (i + 1) tiles) ≡ map items (take i tiles) ++ items tile ∷ [] =
    map_more items tiles i tile l ∙ ap (λ t. map items (take i tiles) ++ items t ∷ []) (sym is) in
    let before = flat_map (with_size count) (map items (take i tiles)) in
    let alone : with_size count (items tile) ++ [] ≡ with_size count (items tile) = search rules in
    let all : flat_map (with_size count) (map items (take (i + 1) tiles)) ≡ before ++ with_size count (items tile) =
    ap (flat_map (with_size count)) more ∙ (flat_map-append (with_size count) (map items (take i tiles)) (items tile ∷ []) ∙ ap (λ (xs : List ℕ). before ++ xs) alone) in
    second
    ∙ ((λ i. first i ++ items tile)
    ∙ ((λ i. (so_far i ++ written i) ++ items tile)
    ∙ (append_assoc (start ++ before) (little_endian count (length (items tile) - 1)) (items tile)
    ∙ (append_assoc start before (with_size count (items tile)) ∙ ap (λ (xs : List ℕ). start ++ xs) (sym all)))))

-- no tile before the last is empty
pub filled_front : {X : Type 0} (items : X → List ℕ) (tiles others : List X) (last : X) → tiles ≡ others ++ last ∷ [] → All (λ tile. 1 ≤ length tile) (map items tiles) → All (λ tile. 1 ≤ length (items tile)) others
filled_front items tiles others last e h k d l =
    let longer : length (others ++ last ∷ []) ≡ length others + 1 = length-append others (last ∷ []) in
    let all : length tiles ≡ length others + 1 = ap length e ∙ longer in
    let mapped : length (map items tiles) ≡ length tiles = length-map tiles items in
    let at : get_or (map items tiles) k (items d) ≡ items (get_or others k d) =
    get_or-map items tiles k d (items d) (omega arith) ∙ ap items (ap (λ xs. get_or xs k d) e ∙ get_or_append_left others (last ∷ []) d k l) in
    subst (λ (t : List ℕ). 1 ≤ length t) at (h k (items d) (omega arith))

-- the bytes of a group are the flags, all tiles but the last behind their sizes, and the last tile
pub framed_is : {X : Type 0} (items : X → List ℕ) (count : ℕ) (tiles others : List X) (last : X) (group : List ℕ) → tiles ≡ others ++ last ∷ []
    → group ≡ (flags others ++ flat_map (with_size count) (map items others)) ++ items last → group ≡ framed_with count (map items tiles)
framed_is {X = X} items count tiles others last group e written =
    written
    ∙ (ap (λ (xs : List ℕ). (xs ++ flat_map (with_size count) (map items others)) ++ items last) (mapped others)
    ∙ (sym (framed-last count (map items others) (items last))
    ∙ (ap (framed_with count) (sym (map-append items others (last ∷ []))) ∙ ap (λ ts. framed_with count (map items ts)) (sym e))))
  where
    mapped : (ts : List X) → flags ts ≡ flags (map items ts)
    mapped [] = refl
    mapped (t ∷ ts) = refl

-- A list without bytes is the number 0.
pub number_of-empty : (bytes : List ℕ) → length bytes ≡ 0 → 0 ≡ number_of bytes
number_of-empty [] e = sym number_of-nil
number_of-empty (byte ∷ bytes) e = absurd (omega arith)

-- a tile before tiles that follow may count to the tiles before
twice : (list : List (List ℕ)) (tile : List ℕ) (o : Option (List (List ℕ))) → option_map (λ more. list ++ more) (option_map (λ more. tile ∷ more) o) ≡ option_map (λ more. (list ++ tile ∷ []) ++ more) o
twice list tile None = refl
twice list tile (Some more) = ap (λ xs. Some xs) (sym (append_assoc list (tile ∷ []) more))

-- one tile more is read
pub read_more : (count n i : ℕ) (list : List (List ℕ)) (bytes : List ℕ) → i < n → count + next_size count bytes ≤ length bytes
    → option_map (λ more. list ++ more) (parsed count (n - i) bytes)
    ≡ option_map (λ more. (list ++ take (next_size count bytes) (drop count bytes) ∷ []) ++ more) (parsed count (n - (i + 1)) (drop (next_size count bytes) (drop count bytes)))
read_more count n i list bytes l room =
    let more : n - i ≡ suc (n - (i + 1)) = omega arith in
    ap (λ (k : ℕ). option_map (λ more. list ++ more) (parsed count k bytes)) more
    ∙ (ap (λ (o : Option (List (List ℕ))). option_map (λ more. list ++ more) o) (parsed-next count (n - (i + 1)) bytes room)
    ∙ twice list (take (next_size count bytes) (drop count bytes)) (parsed count (n - (i + 1)) (drop (next_size count bytes) (drop count bytes))))

-- reading fails where too few bytes are left for the next tile
pub read_short : (count n i : ℕ) (list : List (List ℕ)) (bytes : List ℕ) → i < n → length bytes < count + next_size count bytes
    → option_map (λ more. list ++ more) (parsed count (n - i) bytes) ≡ None
read_short count n i list bytes l short =
    let more : n - i ≡ suc (n - (i + 1)) = omega arith in
    ap (λ (k : ℕ). option_map (λ more. list ++ more) (parsed count k bytes)) more
    ∙ ap (λ (o : Option (List (List ℕ))). option_map (λ more. list ++ more) o) (parsed-short count (n - (i + 1)) bytes short)

-- the bytes that are left are read as the last tile
pub read_last : (count n i : ℕ) (list : List (List ℕ)) (bytes : List ℕ) → n ≤ i → length bytes ≢ 0
    → option_map (λ more. list ++ more) (parsed count (n - i) bytes) ≡ Some (list ++ bytes ∷ [])
read_last count n i list bytes l some =
    let none : n - i ≡ 0 = omega arith in
    ap (λ (k : ℕ). option_map (λ more. list ++ more) (parsed count k bytes)) none
    ∙ ap (λ (o : Option (List (List ℕ))). option_map (λ more. list ++ more) o) (parsed-rest count bytes some)

-- Reading fails where no bytes are left for the last tile.
pub read_none : (count n i : ℕ) (list : List (List ℕ)) (bytes : List ℕ) → n ≤ i → length bytes ≡ 0
    → option_map (λ more. list ++ more) (parsed count (n - i) bytes) ≡ None
read_none count n i list bytes l empty =
    let none : n - i ≡ 0 = omega arith in
    ap (λ (k : ℕ). option_map (λ more. list ++ more) (parsed count k bytes)) none
    ∙ ap (λ (o : Option (List (List ℕ))). option_map (λ more. list ++ more) o) (parsed-empty count bytes empty)

-- A group is read back, and nothing else is read.

-- The framed tiles behind a group's flags are read back as the tiles.
can_read : (count others : ℕ) (tiles : List (List ℕ)) → length tiles ≡ others + 1 → CanFrame count tiles → parsed count others (sized count tiles) ≡ Some tiles
can_read count others [] e can = absurd (omega arith)
can_read count others (tile ∷ tiles) e can =
    let same : length tiles ≡ others = omega arith in
    ap (λ (k : ℕ). parsed count k (sized count (tile ∷ tiles))) (sym same) ∙ parsed-sized count tile tiles can.filled can.fits

-- A group of one tile is the tile alone.
framed-one : (count : ℕ) (tiles : List (List ℕ)) → length tiles ≡ 1 → framed_with count tiles ≡ sized count tiles
unfolding framed_with sized
framed-one count [] e = refl
framed-one count (tile ∷ []) e = refl
framed-one count (tile ∷ next ∷ tiles) e = absurd (omega arith)

-- A group of several tiles is a byte of flags and the tiles behind their sizes.
framed-several : (count : ℕ) (tiles : List (List ℕ)) → 2 ≤ length tiles → framed_with count tiles ≡ 0 ∷ sized count tiles
unfolding framed_with
framed-several count [] l = absurd (omega arith)
framed-several count (tile ∷ []) l = absurd (omega arith)
framed-several count (tile ∷ next ∷ tiles) l = refl

-- reading a list that was framed gives the list
pub reads_framed : (count : ℕ) (tiles : List (List ℕ)) → CanFrame count tiles → group_tiles count (length tiles) (framed_with count tiles) ≡ Some tiles
reads_framed count [] can = absurd (let some = can.some in omega arith)
reads_framed count (tile ∷ []) can = ap (λ (xs : List ℕ). parsed count 0 xs) (framed-one count (tile ∷ []) refl) ∙ can_read count 0 (tile ∷ []) refl can
reads_framed count (tile ∷ next ∷ tiles) can =
    let ts = tile ∷ next ∷ tiles in
    let test : (length ts == 1) ≡ false = grind (arith, nat_tests) in
    let left : length ts - 1 ≡ length (next ∷ tiles) = omega arith in
    rw test ((λ i. behind_flags count (left i) (framed-several count ts (omega arith) i)) ∙ can_read count (length (next ∷ tiles)) ts (omega arith) can)

-- a single tile that was read is framed as its bytes
one_framed : (count : ℕ) (bytes : List ℕ) (tiles : List (List ℕ)) → AreBytes bytes → parsed count 0 bytes ≡ Some tiles → IsFramedAs count 1 bytes tiles
one_framed count bytes tiles each e =
    let read = parsed_is count 0 bytes tiles each e in
    let one : length tiles ≡ 1 = read.number in
    record {
      length = one;
      framable = record { some = omega arith; filled = read.filled; fits = read.fits };
      group = framed-one count tiles one ∙ read.framed;
    }

-- Several tiles that were read behind flags of 0 are framed as the flags and the bytes.
several_framed : (count others : ℕ) (bytes : List ℕ) (tiles : List (List ℕ)) → 1 ≤ others → AreBytes bytes → parsed count others bytes ≡ Some tiles → IsFramedAs count (others + 1) (0 ∷ bytes) tiles
several_framed count others bytes tiles some each e =
    let read = parsed_is count others bytes tiles each e in
    let many : length tiles ≡ others + 1 = read.number in
    record {
      length = many;
      framable = record { some = omega arith; filled = read.filled; fits = read.fits };
      group = framed-several count tiles (omega arith) ∙ ap (λ (xs : List ℕ). 0 ∷ xs) read.framed;
    }

-- tiles that are read behind flags are framed with the flags
by_flags : (count others : ℕ) (flag : ℕ) (bytes : List ℕ) (tiles : List (List ℕ)) (b : Bool) → 1 ≤ others → AreBytes (flag ∷ bytes) → (flag == 0) ≡ b
    → (if b then parsed count others bytes else None) ≡ Some tiles → IsFramedAs count (others + 1) (flag ∷ bytes) tiles
by_flags count others flag bytes tiles false some each test e = absurd (none-some tiles e)
by_flags count others flag bytes tiles true some each test e =
    let zero_flag : 0 ≡ flag = grind (arith, nat_tests) in
    subst (λ (f : ℕ). IsFramedAs count (others + 1) (f ∷ bytes) tiles) zero_flag
    (several_framed count others bytes tiles some (All-tail (λ b. b < 256) flag bytes each) e)

-- tiles that are read, by their number, are framed as the bytes
by_number : (count number : ℕ) (bytes : List ℕ) (tiles : List (List ℕ)) (b : Bool) → 1 ≤ number → AreBytes bytes → (number == 1) ≡ b
    → (if b then parsed count 0 bytes else behind_flags count (number - 1) bytes) ≡ Some tiles → IsFramedAs count number bytes tiles
by_number count number bytes tiles true some each test e =
    let one : 1 ≡ number = grind (arith, nat_tests) in
    subst (λ (n : ℕ). IsFramedAs count n bytes tiles) one (one_framed count bytes tiles each e)
by_number count number [] tiles false some each test e = absurd (none-some tiles e)
by_number count number (flag ∷ bytes) tiles false some each test e =
    let many : number ≢ 1 = grind (arith, nat_tests) in
    let all : number - 1 + 1 ≡ number = omega arith in
    subst (λ (n : ℕ). IsFramedAs count n (flag ∷ bytes) tiles) all
    (by_flags count (number - 1) flag bytes tiles (flag == 0) (omega arith) each refl e)

-- Tiles that were read from a group's bytes are framed as these bytes.
pub framed_as_read : (count number : ℕ) (bytes : List ℕ) (tiles : List (List ℕ)) → 1 ≤ number → AreBytes bytes → group_tiles count number bytes ≡ Some tiles → IsFramedAs count number bytes tiles
framed_as_read count number bytes tiles some each e = by_number count number bytes tiles (number == 1) some each refl e

-- bytes from which no tiles are read are framed from none
pub none_framed : (count number : ℕ) (bytes : List ℕ) (tiles : List (List ℕ)) → group_tiles count number bytes ≡ None → ¬ IsFramedAs count number bytes tiles
none_framed count number bytes tiles none framed =
    let read : group_tiles count number bytes ≡ Some tiles = (λ i. group_tiles count (sym framed.length i) (sym framed.group i)) ∙ reads_framed count tiles framed.framable in
    none-some tiles (sym none ∙ read)

-- lists of equally many tiles that are framed as equal bytes are equal
pub framed_once : (count : ℕ) (tiles others : List (List ℕ)) → CanFrame count tiles → CanFrame count others → length tiles ≡ length others → framed_with count tiles ≡ framed_with count others → tiles ≡ others
framed_once count tiles others can also same equal =
    let first = reads_framed count tiles can in
    let second : group_tiles count (length tiles) (framed_with count tiles) ≡ Some others = (λ i. group_tiles count (same i) (equal i)) ∙ reads_framed count others also in
    let both : Some tiles ≡ Some others = sym first ∙ second in
    cc

-- A call's answer, carried over to what follows from it.

-- A property that another one implies carries over to the value in a result.
pub some_read : {X E : Type 0} (r : Result (Option X) E) (P Q : X → Type 0) → ((x : X) → P x → Q x) → IfOk r (λ o. IfSome o P) → IfOk r (λ o. IfSome o Q)
some_read (Err e) P Q f h = tt
some_read (Ok None) P Q f h = tt
some_read (Ok (Some x)) P Q f h = f x h

-- A fact that another one implies carries over to a result without a value.
pub none_read : {X E : Type 0} (r : Result (Option X) E) (P Q : Type 0) → (P → Q) → IfOk r (λ o. IfNone o P) → IfOk r (λ o. IfNone o Q)
none_read (Err e) P Q f h = tt
none_read (Ok None) P Q f h = f h
none_read (Ok (Some x)) P Q f h = tt

-- the flags of a group whose tiles stand before its last
pub flags_of : {X : Type 0} (tiles : List X) (b : Bool) → (length tiles == 0) ≡ b → (if b then [] else 0 ∷ []) ≡ flags tiles
flags_of [] true e = refl
flags_of [] false e = absurd (true≢false e)
flags_of (tile ∷ tiles) true e = absurd (let none : length (tile ∷ tiles) ≡ 0 = grind (arith, nat_tests) in omega arith)
flags_of (tile ∷ tiles) false e = refl
