-- Versions of servers (MySQL Reference Manual, SHOW BINARY LOG STATUS).
use Rattle.std.specs.Prelude.{◌≡◌, true, false, [], codes}
use Rattle.wire_forms.specs.Version.{front_number, is_newer}

-- which versions have SHOW BINARY LOG STATUS, and which don't
pub record Versions : Type 0 where
  pub first_newer : is_newer (codes "8.2.0") ≡ true
  pub innovation : is_newer (codes "8.3") ≡ true
  pub two_digits : is_newer (codes "8.10.3") ≡ true
  pub next : is_newer (codes "9.0.1") ≡ true
  pub other_server : is_newer (codes "10.11.2-MariaDB") ≡ true
  pub nine_digits : is_newer (codes "123456789.0") ≡ true
  pub long_second : is_newer (codes "8.1234567890") ≡ true
  pub nine_count : front_number (codes "1234567890") ≡ 123456789
  pub nine_zeros : is_newer (codes "8.0000000009") ≡ false
  pub older : is_newer (codes "8.0.36") ≡ false
  pub last_older : is_newer (codes "8.1.9") ≡ false
  pub much_older : is_newer (codes "5.7.44") ≡ false
  pub no_number : is_newer (codes "standin") ≡ false
  pub no_second : is_newer (codes "8.") ≡ false
  pub no_first : is_newer (codes ".5") ≡ false
  pub no_dot : is_newer (codes "9") ≡ false
  pub other_sign : is_newer (codes "9-2") ≡ false
  pub long_first : is_newer (codes "1234567890.0") ≡ false
  pub nothing : is_newer [] ≡ false
