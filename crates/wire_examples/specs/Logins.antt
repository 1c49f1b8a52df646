-- Messages of logins (MySQL source documentation, Protocol::HandshakeV10, Protocol::HandshakeResponse41, Protocol::AuthSwitchRequest).
use Rattle.std.specs.Prelude.{ℕ, ◌≡◌, List, [], ◌∷◌, ◌++◌, true, false, Option, Some, None, option_map, Ok, Err, codes}
use Rattle.std.specs.Result.{result_ok}
use Rattle.wire_forms.specs.KeptText.{kept_text}
use Rattle.wire_forms.specs.Greeting.{greeting_of}
use Rattle.wire_forms.specs.Response.{response}
use Rattle.wire_forms.specs.Switch.{switch_of}
use Rattle.wire_forms.specs.declared.ends.Ends.TheVariants.{Eof, Ok as OkEnds}
use Rattle.wire_forms.specs.declared.greeting.Greeting.{Greeting}
use Rattle.wire_forms.specs.declared.login_fault.LoginFault.TheVariants.{NotProtocol10, PluginUnsupported, Refused, Garbled}

-- the byte that ends a text
abbrev pub zero_byte : List ℕ
zero_byte = 0 ∷ []

-- a greeting up to its capabilities' low half: protocol 10, the version, connection 8, and the scramble's first part
abbrev pub greeting_front : List ℕ
greeting_front = 10 ∷ codes "8.0.35" ++ 0 ∷ 8 ∷ 0 ∷ 0 ∷ 0 ∷ codes "abcdefgh" ++ zero_byte

-- what stands from the scramble's length on, up to the plugin
abbrev pub greeting_end : List ℕ
greeting_end = 21 ∷ 0 ∷ 0 ∷ 0 ∷ 0 ∷ 0 ∷ 0 ∷ 0 ∷ 0 ∷ 0 ∷ 0 ∷ codes "ijklmnopqrst" ++ zero_byte

-- Between the halves of a greeting's capabilities stand the character set and the status.

-- a greeting up to its plugin's name, with capabilities 0xdfffffff
abbrev pub greeting : List ℕ
greeting = greeting_front ++ 255 ∷ 255 ∷ 255 ∷ 2 ∷ 0 ∷ 255 ∷ 223 ∷ greeting_end

-- a greeting without plugins: capabilities 0xdff7ffff
abbrev pub plain_greeting : List ℕ
plain_greeting = greeting_front ++ 255 ∷ 255 ∷ 255 ∷ 2 ∷ 0 ∷ 247 ∷ 223 ∷ greeting_end

-- a greeting without a scramble of twenty bytes, up to its plugin's name: capabilities 0xdfff7fff
abbrev pub old_greeting : List ℕ
old_greeting = greeting_front ++ 255 ∷ 127 ∷ 255 ∷ 2 ∷ 0 ∷ 255 ∷ 223 ∷ greeting_end

-- a greeting without CLIENT_DEPRECATE_EOF, up to its plugin's name: capabilities 0xdeffffff
abbrev pub eof_greeting : List ℕ
eof_greeting = greeting_front ++ 255 ∷ 255 ∷ 255 ∷ 2 ∷ 0 ∷ 255 ∷ 222 ∷ greeting_end

-- a greeting of version 8.2.0, up to its plugin's name
abbrev pub newer_greeting : List ℕ
newer_greeting =
    10 ∷ codes "8.2.0" ++ 0 ∷ 8 ∷ 0 ∷ 0 ∷ 0 ∷ codes "abcdefgh" ++ 0 ∷ 255 ∷ 255 ∷ 255 ∷ 2 ∷ 0 ∷ 255
    ∷ 223 ∷ greeting_end

-- what a server's first messages say
pub record Greetings : Type 0 where
  pub of_mysql : greeting_of (greeting ++ codes "caching_sha2_password" ++ zero_byte)
      ≡ Ok (record {
        version = kept_text (codes "8.0.35");
        scramble = codes "abcdefghijklmnopqrst";
        plugin = kept_text (codes "caching_sha2_password");
        ends = OkEnds;
        newer = false;
      })
  pub with_eof : greeting_of (eof_greeting ++ codes "caching_sha2_password" ++ zero_byte)
      ≡ Ok (record {
        version = kept_text (codes "8.0.35");
        scramble = codes "abcdefghijklmnopqrst";
        plugin = kept_text (codes "caching_sha2_password");
        ends = Eof;
        newer = false;
      })
  pub of_newer : greeting_of (newer_greeting ++ codes "caching_sha2_password" ++ zero_byte)
      ≡ Ok (record {
        version = kept_text (codes "8.2.0");
        scramble = codes "abcdefghijklmnopqrst";
        plugin = kept_text (codes "caching_sha2_password");
        ends = OkEnds;
        newer = true;
      })
  pub without_plugins : greeting_of plain_greeting
      ≡ Ok (record {
        version = kept_text (codes "8.0.35");
        scramble = codes "abcdefghijklmnopqrst";
        plugin = kept_text (codes "mysql_native_password");
        ends = OkEnds;
        newer = false;
      })
  pub no_plugin_named : greeting_of greeting ≡ Err Garbled
  pub byte_after_plugin : greeting_of (greeting ++ codes "caching_sha2_password" ++ 0 ∷ codes "x")
      ≡ Err Garbled
  pub short_scrambles : greeting_of (old_greeting ++ codes "caching_sha2_password" ++ zero_byte)
      ≡ Err Garbled
  pub no_end_of_version : greeting_of (10 ∷ codes "8.0.35") ≡ Err Garbled
  pub other_protocol : greeting_of (9 ∷ codes "8.0.35" ++ zero_byte) ≡ Err (NotProtocol10 9)
  pub err : greeting_of (255 ∷ 16 ∷ 4 ∷ codes "Too many connections")
      ≡ Err (Refused
      (record {
        code = 1040;
        state = codes "HY000";
        message = kept_text (codes "Too many connections");
      }))
  pub short_err : greeting_of (255 ∷ 16 ∷ []) ≡ Err Garbled
  pub nothing : greeting_of [] ≡ Err Garbled

-- packets of up to 64 MiB, character set 45, and 23 zeros
abbrev pub before_user : List ℕ
before_user =
    0 ∷ 0 ∷ 0 ∷ 4 ∷ 45 ∷ 0 ∷ 0 ∷ 0 ∷ 0 ∷ 0 ∷ 0 ∷ 0 ∷ 0 ∷ 0 ∷ 0 ∷ 0 ∷ 0 ∷ 0 ∷ 0 ∷ 0 ∷ 0 ∷ 0 ∷ 0 ∷ 0
    ∷ 0 ∷ 0 ∷ 0 ∷ 0 ∷ []

-- a user without a password, and one with an answer of twenty bytes: with capabilities 0x0008a205, and with 0x0108a205
pub record Responses : Type 0 where
  pub without : response (codes "u") None Eof ≡ 5 ∷ 162 ∷ 8 ∷ 0 ∷ before_user ++ codes "u" ++ 0 ∷ 0
      ∷ codes "mysql_native_password" ++ zero_byte
  pub with_answer : response (codes "root") (Some (codes "ABCDEFGHIJKLMNOPQRST")) Eof ≡ 5 ∷ 162 ∷ 8
      ∷ 0 ∷ before_user ++ codes "root" ++ 0 ∷ 20
      ∷ codes "ABCDEFGHIJKLMNOPQRSTmysql_native_password" ++ zero_byte
  pub without_eof : response (codes "u") None OkEnds ≡ 5 ∷ 162 ∷ 8 ∷ 1 ∷ before_user ++ codes "u"
      ++ 0 ∷ 0 ∷ codes "mysql_native_password" ++ zero_byte
  pub with_answer_without_eof : response (codes "root") (Some (codes "ABCDEFGHIJKLMNOPQRST")) OkEnds
      ≡ 5 ∷ 162 ∷ 8 ∷ 1 ∷ before_user ++ codes "root" ++ 0 ∷ 20
      ∷ codes "ABCDEFGHIJKLMNOPQRSTmysql_native_password" ++ zero_byte

-- how the user `u` without a password responds to a greeting
abbrev pub response_to : List ℕ → Option (List ℕ)
response_to message =
    option_map (λ (found : Greeting). response (codes "u") None found.ends)
    (result_ok (greeting_of message))

-- the response asks for CLIENT_DEPRECATE_EOF exactly where the greeting offers it
pub record LoginsUnderEither : Type 0 where
  pub with_eof : response_to (eof_greeting ++ codes "caching_sha2_password" ++ zero_byte)
      ≡ Some (5 ∷ 162 ∷ 8 ∷ 0 ∷ before_user ++ codes "u" ++ 0 ∷ 0 ∷ codes "mysql_native_password"
      ++ zero_byte)
  pub without_eof : response_to (greeting ++ codes "caching_sha2_password" ++ zero_byte)
      ≡ Some (5 ∷ 162 ∷ 8 ∷ 1 ∷ before_user ++ codes "u" ++ 0 ∷ 0 ∷ codes "mysql_native_password"
      ++ zero_byte)

-- what requests for another plugin say
pub record RequestsForAPlugin : Type 0 where
  pub native : switch_of (254 ∷ codes "mysql_native_password" ++ 0 ∷ codes "ABCDEFGHIJKLMNOPQRST"
      ++ zero_byte) ≡ Ok (record { scramble = codes "ABCDEFGHIJKLMNOPQRST" })
  pub no_zero_after : switch_of
      (254 ∷ codes "mysql_native_password" ++ 0 ∷ codes "ABCDEFGHIJKLMNOPQRST")
      ≡ Ok (record { scramble = codes "ABCDEFGHIJKLMNOPQRST" })
  pub byte_too_few : switch_of
      (254 ∷ codes "mysql_native_password" ++ 0 ∷ codes "ABCDEFGHIJKLMNOPQRS") ≡ Err Garbled
  pub byte_too_many : switch_of
      (254 ∷ codes "mysql_native_password" ++ 0 ∷ codes "ABCDEFGHIJKLMNOPQRSTU") ≡ Err Garbled
  pub two_zeros : switch_of
      (254 ∷ codes "mysql_native_password" ++ 0 ∷ codes "ABCDEFGHIJKLMNOPQRST" ++ 0 ∷ zero_byte)
      ≡ Err Garbled
  pub no_end_of_name : switch_of (254 ∷ codes "mysql_native_password") ≡ Err Garbled
  pub other_plugin : switch_of (254 ∷ codes "sha256_password" ++ zero_byte)
      ≡ Err (PluginUnsupported (kept_text (codes "sha256_password")))
  pub oldest_plugin : switch_of (254 ∷ [])
      ≡ Err (PluginUnsupported (kept_text (codes "mysql_old_password")))
  pub an_ok : switch_of (0 ∷ 0 ∷ 0 ∷ 2 ∷ 0 ∷ 0 ∷ 0 ∷ []) ≡ Err Garbled
