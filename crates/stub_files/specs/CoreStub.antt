-- The text of the core stub.
use Rattle.std.specs.Prelude.{ℕ, List, codes}

abbrev pub core_stub : List ℕ
core_stub = codes "package java.lang;\npublic class Object { public Object(); public boolean equals(Object o);\n  public int hashCode(); public String toString(); }\npublic final class String { public int length(); public boolean isEmpty();\n  public char charAt(int i); public String trim(); public String substring(int a, int b); }\npublic class Throwable { public Throwable(); public Throwable(String m); public String getMessage(); }\npublic class Exception extends Throwable { public Exception(); public Exception(String m); }\npublic class Error extends Throwable { public Error(); public Error(String m); }\npublic class RuntimeException extends Exception { public RuntimeException(); public RuntimeException(String m); }\npublic class IllegalArgumentException extends RuntimeException { public IllegalArgumentException(); public IllegalArgumentException(String m); }\npublic class IllegalStateException extends RuntimeException { public IllegalStateException(); public IllegalStateException(String m); }\npublic class NumberFormatException extends IllegalArgumentException { }\npublic class NullPointerException extends RuntimeException { }\npublic class ArithmeticException extends RuntimeException { }\npublic class ClassCastException extends RuntimeException { }\npublic class NegativeArraySizeException extends RuntimeException { }\npublic class IndexOutOfBoundsException extends RuntimeException { }\npublic class ArrayIndexOutOfBoundsException extends IndexOutOfBoundsException { }\n@InheritableMustCall(\"close\") public interface AutoCloseable { void close() throws Exception; }\npublic final class Integer { public static int parseInt(String s) throws NumberFormatException; }\npackage java.io;\npublic class IOException extends Exception { public IOException(); public IOException(String m); }\npublic class FileNotFoundException extends IOException { public FileNotFoundException(); }\npublic interface Closeable extends AutoCloseable { void close() throws IOException; }\npublic abstract class InputStream implements Closeable { public int read() throws IOException;\n  public int read(byte[] b) throws IOException; public void close() throws IOException; }\npublic abstract class OutputStream implements Closeable { public void write(int b) throws IOException;\n  public void write(byte[] b) throws IOException; public void flush() throws IOException;\n  public void close() throws IOException; }\npublic class FileInputStream extends InputStream { public FileInputStream(String n) throws FileNotFoundException; }\npublic class FileOutputStream extends OutputStream { public FileOutputStream(String n) throws FileNotFoundException; }\npublic class PrintStream extends OutputStream { @MustCallAlias public PrintStream(@MustCallAlias OutputStream o);\n  public void println(String s); public void println(int i); public void write(int b);\n  public void flush(); public void close(); }\npublic abstract class Reader implements Closeable { public int read() throws IOException; public void close() throws IOException; }\npublic abstract class Writer implements Closeable { public void write(String s) throws IOException; public void close() throws IOException; }\npublic class InputStreamReader extends Reader { @MustCallAlias public InputStreamReader(@MustCallAlias InputStream i); }\npublic class BufferedReader extends Reader { @MustCallAlias public BufferedReader(@MustCallAlias Reader r);\n  public String readLine() throws IOException; }\npublic class PrintWriter extends Writer { @MustCallAlias public PrintWriter(@MustCallAlias OutputStream o, boolean f);\n  public void println(String s); public void write(String s); public void close(); }\npackage java.lang;\nimport java.io.*;\npublic final class System { public static final InputStream in; public static final PrintStream out;\n  public static final PrintStream err; }\npackage java.net;\nimport java.io.*;\npublic class UnknownHostException extends IOException { public UnknownHostException(); }\npublic abstract class SocketAddress { }\npublic class InetSocketAddress extends SocketAddress { public InetSocketAddress(String h, int p); }\npublic class Socket implements Closeable { @MustCall({}) public Socket();\n  public Socket(String h, int p) throws UnknownHostException, IOException;\n  @CreatesMustCallFor(\"this\") public void connect(SocketAddress a) throws IOException;\n  @MustCallAlias public InputStream getInputStream(@MustCallAlias Socket this) throws IOException;\n  @MustCallAlias public OutputStream getOutputStream(@MustCallAlias Socket this) throws IOException;\n  public void close() throws IOException; }\n"
