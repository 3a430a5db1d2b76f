-- What a buffer holds after one read more.
use Rattle.std.proofs.Common.{◌≡◌, ℕ, ◌+◌, ◌≤◌, List, ◌++◌, length, take, ap, ap₂, ◌∙◌, le_refl, drop_at, length-take-le}
use Rattle.std.proofs.lemmas.Slice.{take-put_mid_below}
use borrow.Rule.Slice.PartMut.{put_mid, post_of}
use lib.Seq.{take-add, take-append-le}

-- n bytes were put behind the first a
pub take-put_mid_more : (a k n : ℕ) (xs ys : List ℕ) → a ≤ length xs → n ≤ length ys → take (a + n) (put_mid a k xs ys) ≡ take a xs ++ take n ys
take-put_mid_more a k n xs ys h w =
    let after = post_of a k xs in
    take-add a n (put_mid a k xs ys)
    ∙ ap₂ (λ u v. u ++ v) (take-put_mid_below a k xs ys a (le_refl a) h)
    (ap (take n) (drop_at (take a xs) (ys ++ after) a (length-take-le a xs h)) ∙ take-append-le n ys after w)
