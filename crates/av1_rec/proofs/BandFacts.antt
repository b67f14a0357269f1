-- Numbers of lines in bands: what writes leave, and that a run is made up of its bands.
use Rattle.std.proofs.Common.{◌≡◌, ℕ, zero, suc, ◌+◌, ◌-◌, ◌*◌, ◌/◌, ◌%◌, ◌^◌, ◌<◌, ◌≤◌, max, List, [], ◌∷◌, Bool, true, false, length, take, map, get_or, set, get_or-set_same, get_or-set_other, ap, refl, sym, ◌∙◌, arith}
use Rattle.std.specs.Prelude.{◌==◌, ◌&&◌, ◌||◌, if◌then◌else◌, nat_le, nat_lt}
use Rattle.std.proofs.lemmas.Nat.{shr-shr, div_below, mod_below, div-add-mod', le-div, mul-le}
use Rattle.std.proofs.Math.Nat.{div-one, div-mul-le_self}
use Rattle.std.proofs.lemmas.Bool.{false≢true}
use Rattle.std.proofs.lemmas.Bool.Decides.{nat_tests}
use Rattle.av1_block.specs.Block.{default_block}
use Rattle.av1_block.specs.declared.block.Block.{Block}
use Rattle.av1_rec.specs.declared.text.block_line.BlockLine.{BlockLine}
use Rattle.av1_rec.specs.BlockTable.{holds, block_after, blocks_said}
use Rattle.av1_rec.specs.Bands.{is_end, ends_at, ends_below, ends_with, no_line, last_line, numbered_block}
use Rattle.av1_rec.proofs.FirstValues.{all_lines}
use Rattle.av1_rec.proofs.BlockPlaces.{row_before, row_behind, line_written, all_said}

-- what a list of numbers holds after one write
read_number : (xs : List ℕ) (p i v : ℕ) → p < length xs → get_or (set xs p v) i 0 ≡ (if i == p then v else get_or xs i 0)
read_number xs p i v l =
    let here : get_or (set xs p v) p 0 ≡ v = get_or-set_same xs p v 0 l in
    let other : (i ≡ p → ⊥) → get_or (set xs p v) i 0 ≡ get_or xs i 0 = get_or-set_other xs p i v 0 in
    let same : i ≡ p → get_or (set xs p v) i 0 ≡ get_or (set xs p v) p 0 = λ e. ap (λ n. get_or (set xs p v) n 0) e in
    grind (arith, nat_tests)

-- a write to a table with rows of this width
pub place_written : (xs : List ℕ) (width row column number p q : ℕ) → p < width → column < width → row * width + column < length xs
    → get_or (set xs (row * width + column) number) (q * width + p) 0 ≡ (if q == row && p == column then number else get_or xs (q * width + p) 0)
place_written xs width row column number p q hp hc l =
    let read = read_number xs (row * width + column) (q * width + p) number l in
    let above : q < row → q * width + p < row * width = row_before width p q row hp in
    let below : row < q → row * width + width ≤ q * width + p = row_behind width p q row in
    let same : q ≡ row → q * width ≡ row * width = λ e. ap (λ n. n * width) e in
    grind (arith, nat_tests)

-- half of a band's number is the number of the band of twice the size
halved : (x n : ℕ) → x / 2 ^ suc n ≡ x / 2 ^ n / 2
halved x n = ap (λ (k : ℕ). x / 2 ^ k) (omega arith) ∙ sym (shr-shr x n 1)

-- one place is in a run's band of one size, or the run of bands of twice the size has it
halve : (l r q : ℕ) → (nat_lt l q && nat_lt q r) ≡ (is_end l r q || (nat_lt (l / 2) (q / 2) && nat_lt (q / 2) (r / 2)))
halve l r q = grind (arith, nat_tests)

-- the place's band lies between those before and behind the run
abbrev between : ℕ → ℕ → ℕ → ℕ → Bool
between n from count place = nat_lt (from / 2 ^ n) ((place + 1) / 2 ^ n) && nat_lt ((place + 1) / 2 ^ n) ((from + count + 1) / 2 ^ n)

peeled : (n from count place : ℕ) → between n from count place ≡ (ends_at n from count place || between (suc n) from count place)
peeled n from count place =
    rw (halved from n, halved (place + 1) n, halved (from + count + 1) n) (halve (from / 2 ^ n) ((from + count + 1) / 2 ^ n) ((place + 1) / 2 ^ n))

or_more : (a b c d : Bool) → b ≡ (c || d) → (a || b) ≡ ((a || c) || d)
or_more true b c d e = refl
or_more false b c d e = e

-- what bands of fewer than 2^n places leave of a run
collected : (n from count place : ℕ) → between 0 from count place ≡ (ends_below n from count place || between n from count place)
unfolding ends_below
collected zero from count place = refl
collected (suc n) from count place =
    collected n from count place ∙ or_more (ends_below n from count place) (between n from count place) (ends_at n from count place) (between (suc n) from count place) (peeled n from count place)

narrow : (m from count : ℕ) → count + 1 < m → (from + count + 1) / m < from / m + 2
narrow m from count lt =
    let split : from / m * m + from % m ≡ from = div-add-mod' from m in
    let rest : from % m < m = mod_below from m (omega arith) in
    let twice : (from / m + 2) * m ≡ from / m * m + 2 * m = grind arith in
    div_below (from + count + 1) m (from / m + 2) (omega arith) (omega arith)

none_between : (n from count place : ℕ) → count + 1 < 2 ^ n → between n from count place ≡ false
none_between n from count place lt = let few = narrow (2 ^ n) from count lt in grind (arith, nat_tests)

first_between : (from count place : ℕ) → between 0 from count place ≡ (nat_le from place && nat_lt place (from + count))
first_between from count place = simp div-one (grind (arith, nat_tests))

or_false : (a b c : Bool) → c ≡ (a || b) → b ≡ false → a ≡ c
or_false true true c e f = sym e
or_false true false c e f = sym e
or_false false true c e f = absurd (false≢true (sym f))
or_false false false c e f = sym e

-- a run is made up of its bands
pub all_ends : (n from count place : ℕ) → count + 1 < 2 ^ n → ends_below n from count place ≡ (nat_le from place && nat_lt place (from + count))
all_ends n from count place lt =
    or_false (ends_below n from count place) (between n from count place) (between 0 from count place) (collected n from count place) (none_between n from count place lt) ∙ first_between from count place

-- the number of the last line is at most that of all
pub last_within : (test : BlockLine → Bool) (lines : List BlockLine) (n : ℕ) → last_line test lines n ≤ n
unfolding last_line
last_within test lines zero = omega arith
last_within test lines (suc n) = choose (test (get_or lines n no_line)) (last_within test lines n)
  where
    choose : (b : Bool) → last_line test lines n ≤ n → (if b then suc n else last_line test lines n) ≤ suc n
    choose true le = omega arith
    choose false le = omega arith

-- two tests that agree on the lines find one line
pub last_same : (s t : BlockLine → Bool) (lines : List BlockLine) (n : ℕ) → ((i : ℕ) → i < n → s (get_or lines i no_line) ≡ t (get_or lines i no_line)) → last_line s lines n ≡ last_line t lines n
unfolding last_line
last_same s t lines zero agree = refl
last_same s t lines (suc n) agree =
    let here : s (get_or lines n no_line) ≡ t (get_or lines n no_line) = agree n (omega arith) in
    let before : last_line s lines n ≡ last_line t lines n = last_same s t lines n (λ i lt. agree i (omega arith)) in
    rw (here, before) refl

either : (a b : Bool) (n x y m : ℕ) → x ≤ n → y ≤ n → max x y ≡ m → max (if a then suc n else x) (if b then suc n else y) ≡ (if a || b then suc n else m)
either true true n x y m hx hy e = omega arith
either true false n x y m hx hy e = omega arith
either false true n x y m hx hy e = omega arith
either false false n x y m hx hy e = e

-- the last line that passes one test or another
pub last_either : (s t : BlockLine → Bool) (lines : List BlockLine) (n : ℕ) → max (last_line s lines n) (last_line t lines n) ≡ last_line (λ line. s line || t line) lines n
unfolding last_line
last_either s t lines zero = refl
last_either s t lines (suc n) =
    either (s (get_or lines n no_line)) (t (get_or lines n no_line)) n (last_line s lines n) (last_line t lines n) (last_line (λ line. s line || t line) lines n) (last_within s lines n) (last_within t lines n) (last_either s t lines n)

-- no line passes
pub last_none : (test : BlockLine → Bool) (lines : List BlockLine) (n : ℕ) → ((line : BlockLine) → test line ≡ false) → last_line test lines n ≡ 0
unfolding last_line
last_none test lines zero none = refl
last_none test lines (suc n) none = rw (none (get_or lines n no_line)) (last_none test lines n none)

-- no line is the last of none
pub none_marked : (tall wide p q entry : ℕ) (lines : List BlockLine) → entry ≡ 0 → entry ≡ last_line (λ line. ends_with tall wide line p q) lines 0
unfolding last_line
none_marked tall wide p q entry lines e = e

-- a line that there is doesn't depend on what stands for one that there isn't
same_line : (lines : List BlockLine) (i : ℕ) (d e : BlockLine) → i < length lines → get_or lines i d ≡ get_or lines i e
same_line [] i d e lt = absurd (omega arith)
same_line (line ∷ lines) zero d e lt = refl
same_line (line ∷ lines) (suc i) d e lt = same_line lines i d e (omega arith)

-- one line more is marked
pub line_marked : (tall wide p q : ℕ) (lines : List BlockLine) (d : BlockLine) (i number entry old : ℕ) → i < length lines → number ≡ i
    → old ≡ last_line (λ line. ends_with tall wide line p q) lines i → entry ≡ (if ends_with tall wide (get_or lines i d) p q then number + 1 else old) → entry ≡ last_line (λ line. ends_with tall wide line p q) lines (i + 1)
unfolding last_line
line_marked tall wide p q lines d i number entry old lt counted so_far now =
    let k : i + 1 ≡ suc i = omega arith in
    let m : number + 1 ≡ suc i = omega arith in
    let here : get_or lines i d ≡ get_or lines i no_line = same_line lines i d no_line lt in
    now ∙ (λ j. if ends_with tall wide (here j) p q then m j else so_far j) ∙ sym (ap (λ n. last_line (λ line. ends_with tall wide line p q) lines n) k)

-- one row more is raised
pub row_raised : (cols width m k y x j : ℕ) (new old first bands : List ℕ) → x < cols
    → ((i : ℕ) → get_or new i 0 ≡ (if nat_le (y * cols) i && nat_lt i (y * cols + cols) then max (get_or old i 0) (get_or bands ((y + 1) / m * width + (i - y * cols + 1) / k) 0) else get_or old i 0))
    → get_or old (j * cols + x) 0 ≡ (if nat_lt j y then max (get_or first (j * cols + x) 0) (get_or bands ((j + 1) / m * width + (x + 1) / k) 0) else get_or first (j * cols + x) 0)
    → get_or new (j * cols + x) 0 ≡ (if nat_lt j (y + 1) then max (get_or first (j * cols + x) 0) (get_or bands ((j + 1) / m * width + (x + 1) / k) 0) else get_or first (j * cols + x) 0)
row_raised cols width m k y x j new old first bands hx f before =
    let here = f (j * cols + x) in
    let above : j < y → j * cols + x < y * cols = row_before cols x j y hx in
    let below : y < j → y * cols + cols ≤ j * cols + x = row_behind cols x j y in
    let same : j ≡ y → j * cols ≡ y * cols = λ e. ap (λ n. n * cols) e in
    let column : j ≡ y → j * cols + x - y * cols + 1 ≡ x + 1 = λ e. let p : j * cols ≡ y * cols = same e in omega arith in
    let band : j ≡ y → get_or bands ((y + 1) / m * width + (j * cols + x - y * cols + 1) / k) 0 ≡ get_or bands ((j + 1) / m * width + (x + 1) / k) 0 =
    λ e. let p : j * cols + x - y * cols + 1 ≡ x + 1 = column e in (λ i. get_or bands ((sym e i + 1) / m * width + p i / k) 0) in
    grind (arith, nat_tests)

-- the bands of fewer than 2^tall rows, and of those of 2^tall rows the ones of fewer than 2^wide columns
abbrev pub taken : ℕ → ℕ → ℕ → ℕ → ℕ → BlockLine → Bool
taken tall wide wides x y line = (ends_below tall line.y line.rows y && ends_below wides line.x line.cols x) || (ends_at tall line.y line.rows y && ends_below wide line.x line.cols x)

-- the number of the last line of which such bands hold a place
abbrev pub last_taken : ℕ → ℕ → ℕ → ℕ → ℕ → List BlockLine → ℕ
last_taken tall wide wides x y lines = last_line (taken tall wide wides x y) lines (length lines)

-- at first there are no bands
pub none_taken : (wides x y : ℕ) (lines : List BlockLine) → last_taken 0 0 wides x y lines ≡ 0
unfolding ends_below
none_taken wides x y lines = last_none (taken 0 0 wides x y) lines (length lines) (λ line. choose (ends_at 0 line.y line.rows y))
  where
    choose : (b : Bool) → (false || (b && false)) ≡ false
    choose true = refl
    choose false = refl

either_more : (a b c : Bool) (d : Bool) (r : Bool) → ((r || (a && b)) || (a && c)) ≡ (r || (a && (b || c)))
either_more true true c d true = refl
either_more true false c d true = refl
either_more false b c d true = refl
either_more true true c d false = refl
either_more true false c d false = refl
either_more false b c d false = refl

-- bands of one width more
pub wider_taken : (tall wide wides x y new old : ℕ) (lines : List BlockLine) → old ≡ last_taken tall wide wides x y lines
    → new ≡ max old (last_line (λ line. ends_with tall wide line ((x + 1) / 2 ^ wide) ((y + 1) / 2 ^ tall)) lines (length lines)) → new ≡ last_taken tall (wide + 1) wides x y lines
unfolding ends_below
wider_taken tall wide wides x y new old lines so_far now =
    let k : suc wide ≡ wide + 1 = omega arith in
    now ∙ ap (λ n. max n (last_line (λ line. ends_with tall wide line ((x + 1) / 2 ^ wide) ((y + 1) / 2 ^ tall)) lines (length lines))) so_far
    ∙ last_either (taken tall wide wides x y) (λ line. ends_with tall wide line ((x + 1) / 2 ^ wide) ((y + 1) / 2 ^ tall)) lines (length lines)
    ∙ last_same _ (taken tall (suc wide) wides x y) lines (length lines) (λ i lt. let line = get_or lines i no_line in either_more (ends_at tall line.y line.rows y) (ends_below wide line.x line.cols x) (ends_at wide line.x line.cols x) false (ends_below tall line.y line.rows y && ends_below wides line.x line.cols x))
    ∙ ap (λ n. last_taken tall n wides x y lines) k

or_same : (a b c : Bool) → ((a && b) || (c && b)) ≡ ((a || c) && b)
or_same true true true = refl
or_same true true false = refl
or_same true false true = refl
or_same true false false = refl
or_same false b c = refl

right_false : (a b : Bool) → (a || (b && false)) ≡ a
right_false true b = refl
right_false false true = refl
right_false false false = refl

-- bands of one height more
pub taller_taken : (tall wide wides x y entry : ℕ) (lines : List BlockLine) → wide ≡ wides → entry ≡ last_taken tall wide wides x y lines → entry ≡ last_taken (tall + 1) 0 wides x y lines
unfolding ends_below
taller_taken tall wide wides x y entry lines e so_far =
    let k : suc tall ≡ tall + 1 = omega arith in
    so_far ∙ ap (λ n. last_taken tall n wides x y lines) e
    ∙ last_same (taken tall wides wides x y) (taken (suc tall) 0 wides x y) lines (length lines) (λ i lt. let line = get_or lines i no_line in
    or_same (ends_below tall line.y line.rows y) (ends_below wides line.x line.cols x) (ends_at tall line.y line.rows y)
    ∙ sym (right_false ((ends_below tall line.y line.rows y || ends_at tall line.y line.rows y) && ends_below wides line.x line.cols x) (ends_at (suc tall) line.y line.rows y)))
    ∙ ap (λ n. last_taken n 0 wides x y lines) k

and_turned : (a b c : Bool) → (((a && b) || (c && false))) ≡ (b && a)
and_turned true true true = refl
and_turned true true false = refl
and_turned true false true = refl
and_turned true false false = refl
and_turned false true true = refl
and_turned false true false = refl
and_turned false false true = refl
and_turned false false false = refl

-- all bands of a line hold what it holds
pub all_taken : (tall talls wides x y most_rows most_cols entry : ℕ) (lines : List BlockLine) → tall ≡ talls → most_rows + 1 < 2 ^ talls → most_cols + 1 < 2 ^ wides
    → ((i : ℕ) → i < length lines → (get_or lines i no_line).rows ≤ most_rows) → ((i : ℕ) → i < length lines → (get_or lines i no_line).cols ≤ most_cols)
    → entry ≡ last_taken tall 0 wides x y lines → entry ≡ last_line (λ line. holds line x y) lines (length lines)
unfolding ends_below
all_taken tall talls wides x y most_rows most_cols entry lines e enough_rows enough_cols rows cols so_far =
    so_far ∙ ap (λ n. last_taken n 0 wides x y lines) e
    ∙ last_same (taken talls 0 wides x y) (λ line. holds line x y) lines (length lines) (λ i lt. here i (rows i lt) (cols i lt))
  where
    here : (i : ℕ) → (get_or lines i no_line).rows ≤ most_rows → (get_or lines i no_line).cols ≤ most_cols → taken talls 0 wides x y (get_or lines i no_line) ≡ holds (get_or lines i no_line) x y
    here i few_rows few_cols =
        let line = get_or lines i no_line in
        and_turned (ends_below talls line.y line.rows y) (ends_below wides line.x line.cols x) (ends_at talls line.y line.rows y)
        ∙ ap (λ (b : Bool). b && ends_below talls line.y line.rows y) (all_ends wides line.x line.cols x (omega arith))
        ∙ ap (λ (b : Bool). (nat_le line.x x && nat_lt x (line.x + line.cols)) && b) (all_ends talls line.y line.rows y (omega arith))

-- a place's band stands no farther than that of the last place
pub column_inside : (x cols k : ℕ) → 0 < k → x < cols → (x + 1) / k < cols / k + 1
column_inside x cols k some lt =
    let times : (x + 1) / k * k ≤ x + 1 = div-mul-le_self (x + 1) k in
    let column : (x + 1) / k ≤ cols / k = le-div ((x + 1) / k) cols k some (omega arith) in
    omega arith

-- a band of such a row is in the table of bands
pub place_inside : (y rows m width p count : ℕ) → 0 < m → y < rows → p < width → (rows / m + 1) * width ≤ count → (y + 1) / m * width + p < count
place_inside y rows m width p count some lt narrow le =
    let times : (y + 1) / m * m ≤ y + 1 = div-mul-le_self (y + 1) m in
    let row : (y + 1) / m ≤ rows / m = le-div ((y + 1) / m) rows m some (omega arith) in
    let all : ((y + 1) / m + 1) * width ≤ (rows / m + 1) * width = mul-le ((y + 1) / m + 1) width (rows / m + 1) width (omega arith) (omega arith) in
    omega arith

pick : (lines : List BlockLine) (b : Bool) (n m : ℕ) → numbered_block lines (if b then suc n else m) ≡ (if b then (get_or lines n no_line).block else numbered_block lines m)
unfolding numbered_block
pick lines true n m = refl
pick lines false n m = refl

-- the block of the last line that holds a place is the one that stands there when all are written in order
last_is_after : (lines : List BlockLine) (n x y : ℕ) → n ≤ length lines → numbered_block lines (last_line (λ line. holds line x y) lines n) ≡ block_after default_block (take n lines) x y
unfolding last_line numbered_block
last_is_after lines zero x y le = refl
last_is_after lines (suc n) x y le =
    let line = get_or lines n no_line in
    let k : n + 1 ≡ suc n = omega arith in
    line_written lines line n x y _ (numbered_block lines (last_line (λ line. holds line x y) lines n)) (omega arith) (same_line lines n no_line line (omega arith)) (last_is_after lines n x y (omega arith)) (pick lines (holds line x y) n (last_line (λ line. holds line x y) lines n))
    ∙ ap (λ i. block_after default_block (take i lines) x y) k

map_at : (lines : List BlockLine) (numbers : List ℕ) (i : ℕ) → get_or (map (λ n. numbered_block lines n) numbers) i default_block ≡ numbered_block lines (get_or numbers i 0)
unfolding numbered_block
map_at lines [] i = refl
map_at lines (n ∷ numbers) zero = refl
map_at lines (n ∷ numbers) (suc i) = map_at lines numbers i

map_count : (lines : List BlockLine) (numbers : List ℕ) → length (map (λ n. numbered_block lines n) numbers) ≡ length numbers
map_count lines [] = refl
map_count lines (n ∷ numbers) = let e : length (map (λ n. numbered_block lines n) numbers) ≡ length numbers = map_count lines numbers in omega arith

-- the blocks of the last lines are those that all lines say
pub last_blocks : (cols rows : ℕ) (lines : List BlockLine) (numbers : List ℕ) (items : List Block) → length numbers ≡ cols * rows → items ≡ map (λ n. numbered_block lines n) numbers
    → ((x y : ℕ) → x < cols → y < rows → get_or numbers (y * cols + x) 0 ≡ last_line (λ line. holds line x y) lines (length lines)) → items ≡ blocks_said cols rows lines
last_blocks cols rows lines numbers items count e last =
    all_said cols rows lines items (ap length e ∙ map_count lines numbers ∙ count) (λ x y hx hy.
    ap (λ l. get_or l (y * cols + x) default_block) e ∙ map_at lines numbers (y * cols + x) ∙ ap (numbered_block lines) (last x y hx hy) ∙ last_is_after lines (length lines) x y (omega arith)
    ∙ ap (λ (l : List BlockLine). block_after default_block l x y) (all_lines lines (length lines) (omega arith)))
