-- The colours of nets.
use Rattle.std.specs.Prelude.{ℕ, ◌+◌, ◌-◌, ◌*◌, ◌/◌, ◌%◌, ◌==◌, List, ◌++◌, codes, decimal, min, if◌then◌else◌}
use Rattle.std.specs.Int.{abs_diff}

abbrev pub rgb : (red green blue : ℕ) → List ℕ
rgb red green blue =
    codes "rgb(" ++ decimal red ++ codes "," ++ decimal green ++ codes "," ++ decimal blue
    ++ codes ")"

-- how many sixtieths of a primary colour the hue of a net has, by the turn of that colour from red
abbrev pub share_of : (net turn : ℕ) → ℕ
share_of net turn = min (abs_diff ((net * 137 + turn) % 360) 180 - 60) 60

-- the step of lightness of a net: after each 360 nets the next of three, and after the last the
-- first
abbrev pub step_of : (net : ℕ) → ℕ
step_of net = net / 360 % 3

-- how strong a primary colour is that has so many of 180 parts: up to 200, from 35 to 140, or from
-- 55 to 180
abbrev pub strength_of : (net parts : ℕ) → ℕ
strength_of net parts = if step_of net == 0 then parts * 200 / 180 else
    if step_of net == 1 then parts * 105 / 180 + 35 else parts * 125 / 180 + 55

-- the colour of a net with this number
abbrev pub colour_of : (net : ℕ) → List ℕ
colour_of net = rgb (strength_of net (share_of net 0 * 3))
    (strength_of net (share_of net 240 * 2)) (strength_of net (share_of net 120 * 3))
