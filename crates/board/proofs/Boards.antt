-- What the stores of a write or a strike make of the words of a board. Assumes nothing.
use mathlib.Core.Path.{◌≡◌, refl, sym, ap, ◌∙◌}
use mathlib.Core.List.{List, [], ◌∷◌, ◌++◌, append_assoc}
use Prim.Native.Nat.{ℕ, suc, ◌+◌, ◌*◌, ◌-◌, ◌≤◌, ◌<◌}
use native.Mathlib.Omega.{arith}
use lib.ListN.{length, get_or, take, drop, set, replicate, length-append, length-take, length-drop, take-append-drop, replicate-append-replicate}
use lib.Seq.{take_at, drop_at, take-append-le, take-take, length-take-le, drop-drop, set_split, drop-cons}
use Rattle.text.specs.Text.{spliced}
use Rattle.board.specs.Row.{row_words, row_of}
use Rattle.board.specs.Rows.{CAP}
use Rattle.board.specs.declared.rows.Row.{Row}
use Rattle.board.proofs.RowWords.{length-row}
use Rattle.board.specs.Slides.{slid_right, slid_left, zeroed}
use Rattle.board.specs.Board.{W, flat, words_of}
use Rattle.board.proofs.Words.{length-flat, flat_append, flat_cons}

-- ---- words: a list in four parts, a of p words, d of w words that go or give room

-- b moves over d, and v takes the place that b leaves
put_slid : (a b d c v : List ℕ) (p e w : ℕ) → length a ≡ p → length b ≡ e - p → p ≤ e → length d ≡ w → length v ≡ w
    → spliced (slid_right (a ++ (b ++ (d ++ c))) p e w) p v ≡ a ++ (v ++ (b ++ c))
unfolding spliced slid_right
put_slid a b d c v p e w ha hb le hd hv =
    let l : List ℕ = a ++ (b ++ (d ++ c)) in
    let rest : List ℕ = take (e - p) (drop p l) ++ drop (e + w) l in
    let x : List ℕ = take (p + w) l ++ rest in
    let hl : length l ≡ length a + (length b + (length d + length c)) = simp length-append in
    let hx : length (take (p + w) l) ≡ p + length v = simp length-take (omega arith) in
    let t : take p x ≡ a = take-append-le p (take (p + w) l) rest (omega arith) ∙ take-take p (p + w) l (omega arith) ∙ take_at a (b ++ (d ++ c)) p ha in
    let dp : drop p l ≡ b ++ (d ++ c) = drop_at a (b ++ (d ++ c)) p ha in
    let de : drop (e + w) l ≡ c =
    ap (drop (e + w)) (sym (simp append_assoc)) ∙ drop_at (a ++ (b ++ d)) c (e + w) (simp length-append (omega arith)) in
    let r : rest ≡ b ++ c =
    ap (λ (z : List ℕ). take (e - p) z ++ drop (e + w) l) dp
    ∙ ap (λ (z : List ℕ). z ++ drop (e + w) l) (take_at b (d ++ c) (e - p) hb)
    ∙ ap (λ (z : List ℕ). b ++ z) de in
    ap (λ (z : List ℕ). z ++ v ++ drop (p + length v) x) t
    ∙ ap (λ (z : List ℕ). a ++ v ++ z) (drop_at (take (p + w) l) rest (p + length v) hx ∙ r)
    ∙ append_assoc a v (b ++ c)

-- v takes the place of d
put_over : (a d c v : List ℕ) (p : ℕ) → length a ≡ p → length d ≡ length v → spliced (a ++ (d ++ c)) p v ≡ a ++ (v ++ c)
unfolding spliced
put_over a d c v p ha hd =
    ap (λ (z : List ℕ). z ++ v ++ drop (p + length v) (a ++ (d ++ c))) (take_at a (d ++ c) p ha)
    ∙ ap (λ (z : List ℕ). a ++ v ++ z) (ap (drop (p + length v)) (sym (append_assoc a d c)) ∙ drop_at (a ++ d) c (p + length v) (simp length-append (omega arith)))
    ∙ append_assoc a v c

-- b moves up over d, and w zeros follow it
zeroed_slid : (a d b c : List ℕ) (p n w q : ℕ) → length a ≡ p → length b ≡ n → length d ≡ w → q ≡ p + n
    → zeroed (slid_left (a ++ (d ++ (b ++ c))) p n w) q w ≡ a ++ (b ++ (replicate w 0 ++ c))
unfolding zeroed slid_left
zeroed_slid a d b c p n w q ha hb hd hq =
    let l : List ℕ = a ++ (d ++ (b ++ c)) in
    let x : List ℕ = (a ++ b) ++ drop (p + n) l in
    let hab : length (a ++ b) ≡ p + n = simp length-append (omega arith) in
    let ex : take p l ++ take n (drop (p + w) l) ++ drop (p + n) l ≡ x =
    ap (λ (z : List ℕ). z ++ take n (drop (p + w) l) ++ drop (p + n) l) (take_at a (d ++ (b ++ c)) p ha)
    ∙ ap (λ (z : List ℕ). a ++ take n z ++ drop (p + n) l) (ap (drop (p + w)) (sym (append_assoc a d (b ++ c))) ∙ drop_at (a ++ d) (b ++ c) (p + w) (simp length-append (omega arith)))
    ∙ ap (λ (z : List ℕ). a ++ z ++ drop (p + n) l) (take_at b c n hb) in
    let dx : drop (p + n + w) x ≡ c =
    sym (drop-drop w (p + n) x)
    ∙ ap (drop w) (drop_at (a ++ b) (drop (p + n) l) (p + n) hab)
    ∙ drop-drop w (p + n) l
    ∙ ap (drop (p + n + w)) (sym (simp append_assoc))
    ∙ drop_at (a ++ (d ++ b)) c (p + n + w) (simp length-append (omega arith)) in
    ap (λ (k : ℕ). take k (take p l ++ take n (drop (p + w) l) ++ drop (p + n) l) ++ replicate w 0 ++ drop (k + w) (take p l ++ take n (drop (p + w) l) ++ drop (p + n) l)) hq
    ∙ ap (λ (z : List ℕ). take (p + n) z ++ replicate w 0 ++ drop (p + n + w) z) ex
    ∙ ap (λ (z : List ℕ). z ++ replicate w 0 ++ drop (p + n + w) x) (take_at (a ++ b) (drop (p + n) l) (p + n) hab)
    ∙ ap (λ (z : List ℕ). a ++ b ++ replicate w 0 ++ z) dx
    ∙ simp append_assoc

-- ---- boards

-- the words of rows in two parts
words_append : (xs ys : List Row) (n : ℕ) → n ≡ length xs + length ys
    → words_of (xs ++ ys) ≡ (n ∷ flat xs) ++ (flat ys ++ replicate (W * CAP - W * n) 0)
unfolding words_of
words_append xs ys n h =
    ap (λ (k : ℕ). k ∷ (flat (xs ++ ys) ++ replicate (W * CAP - W * k) 0)) (length-append xs ys ∙ sym h)
    ∙ ap (λ (z : List ℕ). n ∷ (z ++ replicate (W * CAP - W * n) 0)) (flat_append xs ys)
    ∙ ap (λ (z : List ℕ). n ∷ z) (append_assoc (flat xs) (flat ys) (replicate (W * CAP - W * n) 0))

words_at : (rs : List Row) (i : ℕ) → words_of rs ≡ (length rs ∷ flat (take i rs)) ++ (flat (drop i rs) ++ replicate (W * CAP - W * length rs) 0)
words_at rs i =
    ap words_of (sym (take-append-drop i rs))
    ∙ words_append (take i rs) (drop i rs) (length rs) (sym (ap length (take-append-drop i rs)) ∙ length-append (take i rs) (drop i rs))

head_length_lem : (rs : List Row) (n i : ℕ) → i ≤ length rs → length (n ∷ flat (take i rs)) ≡ 1 + W * i
head_length_lem rs n i h =
    let e : length (take i rs) ≡ i = length-take-le i rs h in
    omega (arith, length-flat (take i rs))

-- the words of rows in three parts, row i between the others
words_row_at : (rs : List Row) (i : ℕ) (d : Row) → i < length rs
    → words_of rs ≡ (length rs ∷ flat (take i rs)) ++ (row_words (get_or rs i d) ++ (flat (drop (suc i) rs) ++ replicate (W * CAP - W * length rs) 0))
words_row_at rs i d h =
    let z : List ℕ = replicate (W * CAP - W * length rs) 0 in
    let a : List ℕ = length rs ∷ flat (take i rs) in
    let tl : List Row = drop (suc i) rs in
    words_at rs i
    ∙ ap (λ (x : List Row). a ++ (flat x ++ z)) (drop-cons rs i d h)
    ∙ ap (λ (x : List ℕ). a ++ (x ++ z)) (flat_cons (get_or rs i d) tl)
    ∙ ap (λ (x : List ℕ). a ++ x) (append_assoc (row_words (get_or rs i d)) (flat tl) z)

zeros_join : (w m n : ℕ) → w + m ≡ n → ◌++◌ {A = ℕ} (replicate w 0) (replicate m 0) ≡ replicate n 0
zeros_join w m n e = replicate-append-replicate w m 0 ∙ ap (λ (k : ℕ). replicate k 0) e

-- a row's room among the zeros
row_zeros : (n m : ℕ) → n ≡ m + 1 → n ≤ CAP → ◌++◌ {A = ℕ} (replicate W 0) (replicate (W * CAP - W * n) 0) ≡ replicate (W * CAP - W * m) 0
row_zeros n m e h = zeros_join W (W * CAP - W * n) (W * CAP - W * m) (omega arith)

-- row i replaced
pub replace_board : (rs : List Row) (r : Row) (i : ℕ) → i < length rs → spliced (words_of rs) (1 + W * i) (row_words r) ≡ words_of (set rs i r)
replace_board rs r i h =
    let n : ℕ = length rs in
    let z : List ℕ = replicate (W * CAP - W * n) 0 in
    let a : List ℕ = n ∷ flat (take i rs) in
    let old : Row = get_or rs i r in
    let tl : List Row = drop (suc i) rs in
    let to : words_of (set rs i r) ≡ a ++ (row_words r ++ (flat tl ++ z)) =
    ap words_of (set_split rs i r h)
    ∙ words_append (take i rs) (r ∷ tl) n (simp (length-take, length-drop) (omega arith))
    ∙ ap (λ (x : List ℕ). a ++ (x ++ z)) (flat_cons r tl)
    ∙ ap (λ (x : List ℕ). a ++ x) (append_assoc (row_words r) (flat tl) z) in
    ap (λ (x : List ℕ). spliced x (1 + W * i) (row_words r)) (words_row_at rs i r h)
    ∙ put_over a (row_words old) (flat tl ++ z) (row_words r) (1 + W * i) (head_length_lem rs n i (omega arith)) (length-row old ∙ sym (length-row r))
    ∙ sym to

-- a row put in at i, where there is room
pub insert_board : (rs : List Row) (r : Row) (i : ℕ) → i ≤ length rs → length rs < CAP
    → set (spliced (slid_right (words_of rs) (1 + W * i) (1 + W * length rs) W) (1 + W * i) (row_words r)) 0 (length rs + 1) ≡ words_of (take i rs ++ r ∷ drop i rs)
insert_board rs r i h room =
    let n : ℕ = length rs in
    let a : List ℕ = n ∷ flat (take i rs) in
    let b : List ℕ = flat (drop i rs) in
    let z : List ℕ = replicate (W * CAP - W * (n + 1)) 0 in
    let from : words_of rs ≡ a ++ (b ++ (replicate W 0 ++ z)) =
    words_at rs i ∙ ap (λ (x : List ℕ). a ++ (b ++ x)) (sym (row_zeros (n + 1) n refl (omega arith))) in
    let hb : length b ≡ 1 + W * n - (1 + W * i) = length-flat (drop i rs) ∙ simp length-drop (omega arith) in
    let to : words_of (take i rs ++ r ∷ drop i rs) ≡ ((n + 1) ∷ flat (take i rs)) ++ (row_words r ++ (b ++ z)) =
    words_append (take i rs) (r ∷ drop i rs) (n + 1) (simp (length-take, length-drop) (omega arith))
    ∙ ap (λ (x : List ℕ). ((n + 1) ∷ flat (take i rs)) ++ (x ++ z)) (flat_cons r (drop i rs))
    ∙ ap (λ (x : List ℕ). ((n + 1) ∷ flat (take i rs)) ++ x) (append_assoc (row_words r) b z) in
    ap (λ (x : List ℕ). set (spliced (slid_right x (1 + W * i) (1 + W * n) W) (1 + W * i) (row_words r)) 0 (n + 1)) from
    ∙ ap (λ (x : List ℕ). set x 0 (n + 1))
    (put_slid a b (replicate W 0) z (row_words r) (1 + W * i) (1 + W * n) W (head_length_lem rs n i h) hb (omega arith) refl (length-row r))
    ∙ sym to

-- row i taken out
pub remove_board : (rs : List Row) (i : ℕ) → i < length rs → length rs ≤ CAP
    → set (zeroed (slid_left (words_of rs) (1 + W * i) (W * (length rs - (i + 1))) W) (1 + W * (length rs - 1)) W) 0 (length rs - 1) ≡ words_of (take i rs ++ drop (suc i) rs)
remove_board rs i h cap =
    let n : ℕ = length rs in
    let m : ℕ = length rs - 1 in
    let a : List ℕ = n ∷ flat (take i rs) in
    let old : Row = get_or rs i (row_of []) in
    let tl : List Row = drop (suc i) rs in
    let z : List ℕ = replicate (W * CAP - W * n) 0 in
    let hb : length (flat tl) ≡ W * (n - (i + 1)) = length-flat tl ∙ simp length-drop (omega arith) in
    let to : words_of (take i rs ++ tl) ≡ (m ∷ flat (take i rs)) ++ (flat tl ++ (replicate W 0 ++ z)) =
    words_append (take i rs) tl m (simp (length-take, length-drop) (omega arith))
    ∙ ap (λ (x : List ℕ). (m ∷ flat (take i rs)) ++ (flat tl ++ x)) (sym (row_zeros n m (omega arith) cap)) in
    ap (λ (x : List ℕ). set (zeroed (slid_left x (1 + W * i) (W * (n - (i + 1))) W) (1 + W * m) W) 0 m) (words_row_at rs i (row_of []) h)
    ∙ ap (λ (x : List ℕ). set x 0 m)
    (zeroed_slid a (row_words old) (flat tl) z (1 + W * i) (W * (n - (i + 1))) W (1 + W * m) (head_length_lem rs n i (omega arith)) hb (length-row old) (omega arith))
    ∙ sym to
